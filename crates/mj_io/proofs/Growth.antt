-- Laws of what a sink holds as it grows.
use Rattle.std.proofs.Common.{take, ◌≡◌, ℕ, List, [], ◌++◌, Option, Some, None, sym, ◌∙◌, ap, refl, subst, append_assoc}
use Rattle.std.proofs.lemmas.List.{append-nil}
use Rattle.mj_io.specs.Growth.{Grew, GrewPart, Gives}

-- nothing was written
pub Grew-nothing : (a : Option (List ℕ)) → Grew a [] a
Grew-nothing None = tt
Grew-nothing (Some xs) = sym (append-nil xs)

-- one piece was written, and then another
pub Grew-then : (a b c : Option (List ℕ)) (x y : List ℕ) → Grew a x b → Grew b y c → Grew a (x ++ y) c
Grew-then a b None x y p q = tt
Grew-then a None (Some zs) x y p q = absurd q
Grew-then None (Some ys) (Some zs) x y p q = absurd p
Grew-then (Some xs) (Some ys) (Some zs) x y p q = q ∙ ap (λ s. s ++ y) p ∙ append_assoc xs x y

-- what is held after nothing was written
pub Grew-same : (a b : Option (List ℕ)) → b ≡ a → Grew a [] b
Grew-same a b e = let P : Option (List ℕ) → Type 0 = λ s. Grew a [] s in subst P (sym e) (Grew-nothing a)

-- a piece was written, and then a prefix of another
pub Grew-then_part : (a b c : Option (List ℕ)) (x y text : List ℕ) → text ≡ x ++ y → Grew a x b → GrewPart b y c → GrewPart a text c
Grew-then_part a b c x y text e grew part = record {
  prefix = x ++ part.prefix;
  rest = part.rest;
  parts = e ∙ ap (λ s. x ++ s) part.parts ∙ sym (append_assoc x part.prefix part.rest);
  grew = Grew-then a b c x part.prefix grew part.grew;
}

-- no byte is a prefix of every text
pub GrewPart-none : (a b : Option (List ℕ)) (x : List ℕ) → b ≡ a → GrewPart a x b
GrewPart-none a b x e = record { prefix = []; rest = x; parts = refl; grew = Grew-same a b e }

-- a piece was written, and then nothing more
pub GrewPart-stopped : (a b c : Option (List ℕ)) (x y text : List ℕ) → text ≡ x ++ y → Grew a x b → c ≡ b → GrewPart a text c
GrewPart-stopped a b c x y text e grew same =
    Grew-then_part a b c x y text e grew (GrewPart-none b c y same)

-- what was given is the first `cap` bytes of a text that is held
pub Gives-held : (held : Option (List ℕ)) (cap : ℕ) (bytes : List ℕ) → Gives held cap bytes → (text : List ℕ) × (held ≡ Some text) × (bytes ≡ take cap text)
Gives-held None cap bytes g = absurd g
Gives-held (Some text) cap bytes g = (text, refl, g)
