use Rattle.std.proofs.Common.{subst, ℕ, ◌≡◌, ◌+◌, ◌+ℤ◌, unsigned_abs, ap, sym, ◌∙◌, arith, inl, inr}
use Rattle.std.proofs.lemmas.Bool.{cases_eq}
use Rattle.std.proofs.lemmas.Int.{ints}
use Rattle.mj_tree.specs.Listing.{height, listed}
use Rattle.mj_tree.proofs.ListingLaws.{listed_is_before}
use Rattle.mj_types.specs.Duals.{wide_at}
use Rattle.mj_types.specs.Forests.{above_in}
use Rattle.mj_factor.proofs.ScatterLaws.{scattered, scattered_none, scattered_not_yet, scattered_here, scattered_other, scattered_all}
use Rattle.mj_factor.proofs.passes.add_listed.Goals as goal

pub loop-c-init : goal.loop-c-init
loop-c-init c = λ i.
    let none = scattered_none c.args.model.now c.args.factor.now c.requires.factor.room c.args.k c.requires.dof c.args.y.now.mid i in
    omega (arith, ints, none)

pub add_at-requires-clause-sum : goal.add_at-requires-clause-sum
add_at-requires-clause-sum c =
    let m = c.args.model.now in
    let f = c.args.factor.now in
    let i = listed (above_in m) f.above c.args.k c.loop-c.c in
    omega (
      arith,
      ints,
      ap unsigned_abs (c.loop-c.invariant i),
      ap (λ x. unsigned_abs (wide_at c.args.sums.now i +ℤ x)) (scattered_not_yet m f c.requires.factor.room c.args.k c.requires.dof c.args.y.now.mid c.loop-c.c (omega arith)),
      c.requires.sums i (listed_is_before (above_in m) m.nv f.at f.above c.requires.factor.room.listing c.args.k c.loop-c.c c.requires.dof (omega arith)),
    )

pub loop-c-preserved : goal.loop-c-preserved
loop-c-preserved c = λ i.
    let m = c.args.model.now in
    let f = c.args.factor.now in
    let room = c.requires.factor.room in
    let here = listed (above_in m) f.above c.args.k c.loop-c.c in
    let y = c.args.y.now.mid in
    elim (cases_eq i here) [
      | inl e ↦
          let at_here : wide_at c.add_at.new.sums here ≡ wide_at c.args.sums.now here +ℤ scattered m f c.args.k y (c.loop-c.c + 1) here =
          omega (
            arith,
            ints,
            c.add_at.ensures.same,
            c.loop-c.invariant here,
            scattered_not_yet m f room c.args.k c.requires.dof y c.loop-c.c (omega arith),
            scattered_here m f room c.args.k c.requires.dof y c.loop-c.c (omega arith),
          ) in
          subst (λ (p : ℕ). wide_at c.add_at.new.sums p ≡ wide_at c.args.sums.now p +ℤ scattered m f c.args.k y (c.loop-c.c + 1) p) (sym e) at_here
      | inr e ↦
          c.add_at.ensures.others i e ∙ c.loop-c.invariant i
          ∙ ap (λ x. wide_at c.args.sums.now i +ℤ x) (sym (scattered_other m f room c.args.k c.requires.dof y c.loop-c.c (omega arith) i e))
    ]

pub returns : goal.returns
returns c = λ i.
    let m = c.args.model.now in
    let f = c.args.factor.now in
    let last : c.loop-c.c ≡ height (above_in m) c.args.k = omega arith in
    c.loop-c.invariant i
    ∙ ap (λ x. wide_at c.args.sums.now i +ℤ x)
    (ap (λ (n : ℕ). scattered m f c.args.k c.args.y.now.mid n i) last ∙ scattered_all m f c.requires.factor.room c.args.k c.requires.dof c.args.y.now.mid i)
