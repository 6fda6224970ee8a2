-- Records of a tape as lists of controls.
use Rattle.std.proofs.Common.{◌≡◌, ℕ, suc, ◌+◌, ◌*◌, ◌<◌, ◌≤◌, ℤ, pos, unsigned_abs, List, map, take, drop, length, replicate, ap, ◌∙◌, arith, mul-le-mul_right}
use Rattle.std.proofs.lemmas.List.{drop-map, take-map, map-id, length-take-le, length-drop, length-replicate}
use Rattle.std.proofs.lemmas.List.Elements.{All-take, All-drop, All-replicate, All-get_or}
use Rattle.std.proofs.lemmas.Simd.{map-map}
use Rattle.mj_passive.specs.Forces.{AreControls}
use Rattle.mj_tape.specs.Judging.{raws}
use Rattle.mj_types.specs.declared.model.Model.{Model}
use Rattle.mj_types.specs.Control.{Control, control_limit, AreSmall}
use Rattle.mj_types.specs.Parts.{plain}
use Rattle.mj_run.specs.declared.run.Controls.{Controls}
use Rattle.mj_run.specs.declared.run.Controls.TheVariants as controls
use Rattle.mj_run.specs.Controls.{controls_at, tape_of, Serves}

-- a record by raw numbers is the record
pub taken-raws : (w n : ℕ) (xs : List Control) → map plain (take w (drop n (raws xs))) ≡ take w (drop n xs)
taken-raws w n xs =
    ap (λ (ys : List ℤ). map plain (take w ys)) (drop-map (λ (x : Control). x.mid) n xs)
    ∙ ap (map plain) (take-map (λ (x : Control). x.mid) w (drop n xs))
    ∙ map-map plain (λ (x : Control). x.mid) (take w (drop n xs))
    ∙ map-id (take w (drop n xs))

-- record k of so many has its whole width
pub record-within : (rows width k n : ℕ) → n ≡ rows * width → k < rows → k * width + width ≤ n
record-within rows width k n e h =
    let more : suc k * width ≤ rows * width = mul-le-mul_right width h in
    omega (arith, more, e)

lawful : (m : Model) (xs : List Control) → length xs ≡ length m.motors → AreSmall xs → AreControls m xs
lawful m xs many small = record {
  many = many;
  small = λ k h. All-get_or (λ (x : Control). unsigned_abs x.mid ≤ control_limit) xs k (plain (pos 0)) (omega (arith, many, h)) small;
}

-- what drives a run gives controls of the model
pub controls-lawful : (m : Model) (c : Controls) (steps k : ℕ) → Serves c (length m.motors) steps → k < steps → AreControls m (controls_at (length m.motors) (tape_of c) k)
controls-lawful m (controls.Rest zeros) steps k serves h =
    lawful m (replicate (length m.motors) (plain (pos 0))) (length-replicate (length m.motors) (plain (pos 0)))
    (All-replicate (λ (x : Control). unsigned_abs x.mid ≤ control_limit) (length m.motors) (plain (pos 0)) (omega arith))
controls-lawful m (controls.Taped tape) steps k serves h =
    let width = length m.motors in
    let here = drop (k * width) tape.values in
    let fills : length tape.values ≡ tape.rows * width = tape.filled ∙ ap (λ w. tape.rows * w) serves.0 in
    let room = record-within tape.rows width k (length tape.values) fills (omega (arith, serves.1)) in
    rw (taken-raws width (k * width) tape.values)
    (lawful m (take width here) (length-take-le width here (omega (arith, room, length-drop (k * width) tape.values)))
    (All-take (λ (x : Control). unsigned_abs x.mid ≤ control_limit) width here
    (All-drop (λ (x : Control). unsigned_abs x.mid ≤ control_limit) (k * width) tape.values tape.small)))
