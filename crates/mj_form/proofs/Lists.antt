-- A list that is read item by item: what is read so far stands before what is left.
use Rattle.std.proofs.Common.{◌≡◌, suc, List, [], ◌∷◌, ◌++◌, length, Result, Ok, Err, refl, ap}
use Rattle.toml.specs.declared.value.Value.{Value}
use Rattle.toml.specs.View.{items_view}
use Rattle.mj_form.specs.Forms.{count}

abbrev pub after : {A E : Type 0} → List A → Result (List A) E → Result (List A) E
after before (Ok xs) = Ok (before ++ xs)
after before (Err fault) = Err fault

pub count_view : (vs : List Value) → count (items_view vs) ≡ length vs
count_view [] = refl
count_view (v ∷ vs) = ap suc (count_view vs)
