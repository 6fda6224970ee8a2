-- What a call that adds contacts to a list within its room leaves: those that it was to add, or the fault of too many. A rule of this project's own.
use Rattle.std.specs.Prelude.{◌≡◌, ◌+◌, ◌≤◌, List, length, ◌++◌, Option, None}
use Rattle.fx_list.specs.Held.{Held}
use Rattle.mj_types.specs.declared.carriers.Contact.{Contact}
use Rattle.mj_types.specs.declared.range.OutOfRange.{OutOfRange}
use Rattle.mj_contact.specs.Lists.{rows_out}

pub record HasAdded (old : Held Contact) (part : List Contact) (fault : Option OutOfRange) (new : Held Contact) : Type 0 where
  pub room : new.most ≡ old.most
  pub within : length new.list ≤ new.most
  pub first : fault ≡ rows_out old.most (length old.list + length part)
  pub whole : fault ≡ None → new.list ≡ old.list ++ part
