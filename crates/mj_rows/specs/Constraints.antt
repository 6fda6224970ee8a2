-- All constraints of a state, in order: each equality, each joint's friction, each joint's limits, each tendon's limits, each contact's
-- edges. MuJoCo documentation, Computation, constraints; the order within a kind is this project's own.
use Rattle.std.specs.Prelude.{ℕ, ℤ, pos, List, [], ◌∷◌, ◌++◌, length, slice_index_or, Option}
use Rattle.fx_whole.specs.Joined.{joined}
use Rattle.mj_types.specs.declared.carriers.Applied.{Applied}
use Rattle.mj_types.specs.declared.carriers.Contact.{Contact}
use Rattle.mj_types.specs.declared.carriers.Contacts.{Contacts}
use Rattle.mj_types.specs.declared.carriers.Frames.{Frames}
use Rattle.mj_types.specs.declared.model.Model.{Model}
use Rattle.mj_types.specs.declared.range.OutOfRange.{OutOfRange}
use Rattle.mj_types.specs.declared.state.State.{State}
use Rattle.mj_types.specs.Parts.{plain, no_vector, number_at}
use Rattle.mj_types.specs.Placed.{Placing, placing_of}
use Rattle.mj_contact.specs.Lists.{rows_out}
use Rattle.mj_rows.specs.Constraint.{Constraint}
use Rattle.mj_rows.specs.Joints.{equality_of, frictions}
use Rattle.mj_rows.specs.Limits.{joint_limits, tendon_limits}
use Rattle.mj_rows.specs.Edges.{edges}

-- the contact at a place
abbrev pub no_contact : Contact
no_contact = record { a = 0; b = 0; dist = plain (pos 0); point = no_vector; normal = no_vector; t1 = no_vector; t2 = no_vector }

abbrev pub contact : List Contact → ℕ → Contact
contact cs k = slice_index_or cs k no_contact

-- ---- of each kind
abbrev pub all_equalities : Model → State → List Constraint
all_equalities m s = joined (length m.equalities) (λ e. equality_of m s e ∷ [])

abbrev pub all_frictions : Model → List Constraint
all_frictions m = joined (length m.joints) (frictions m)

abbrev pub all_joint_limits : Model → State → List Constraint
all_joint_limits m s = joined (length m.joints) (joint_limits m s)

abbrev pub all_tendon_limits : Model → (ℕ → ℤ) → List Constraint
all_tendon_limits m lengths = joined (length m.tendons) (tendon_limits m lengths)

abbrev pub all_edges : Model → Placing → List Contact → List Constraint
all_edges m x cs = joined (length cs) (λ k. edges m x (contact cs k) k)

-- ---- all, from the state, the placing, the tendons' lengths and the contacts
abbrev pub constraints : Model → State → Placing → (ℕ → ℤ) → List Contact → List Constraint
constraints m s x lengths cs =
    all_equalities m s ++ all_frictions m ++ all_joint_limits m s ++ all_tendon_limits m lengths ++ all_edges m x cs

-- those that carriers hold
abbrev pub constraints_of : Model → State → Frames → Applied → Contacts → List Constraint
constraints_of m s f a c = constraints m s (placing_of f) (number_at a.length) c.list.list

-- ---- the fault of their number: there are more than njmax
abbrev pub constraints_fault : Model → List Constraint → Option OutOfRange
constraints_fault m cs = rows_out m.njmax (length cs)
