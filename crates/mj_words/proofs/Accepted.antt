-- No word is bad exactly where the words are accepted.
use Rattle.std.proofs.Common.{◌≡◌, ℕ, zero, suc, ◌+◌, ◌-◌, ◌*◌, ◌/◌, ◌<◌, ◌≤◌, Bool, true, false, not, ◌&&◌, ◌||◌, ◌==◌, cond, List, [], ◌∷◌, inl, inr, length, Option, Some, None, is_some, unwrap_or, refl, sym, ◌∙◌, ap, arith}
use Rattle.std.specs.List.{list_all}
use Rattle.std.specs.Str.{bytes_eq}
use Rattle.std.proofs.lemmas.Bool.{cases_Bool}
use Rattle.std.proofs.lemmas.Bool.Decides.{nat_tests, Decides-ltb}
use Rattle.std.proofs.lemmas.Slice.Eq.{bytes_eq-Decides}
use Rattle.fx_whole.specs.First.{or_first, first_to}
use Rattle.fx_whole.proofs.CountLaws.{count_to-below}
use Rattle.fx_whole.proofs.FirstLaws.{or_both, first_none}
use Rattle.mj_words.specs.declared.table.Command.{Command}
use Rattle.mj_words.specs.declared.table.Command.TheVariants as command
use Rattle.mj_words.specs.declared.table.Name.{Name}
use Rattle.mj_words.specs.declared.table.Name.TheVariants as named
use Rattle.mj_words.specs.Table.{command_named, text_of, all_names, rule, rule_of}
use Rattle.mj_words.specs.Words.{word, name, value, name_count, value_count, command_of, given, unless, bad_command, stood_before, bad_name, bad_names, value_missing, bad_value, bad_values, is_served, name_missing, past_end, bad_pairs, bad_place, name_place, value_place}
use Rattle.mj_words.specs.Accepted.{AreAccepted, AcceptedHaveNoBadPlace}
use Rattle.mj_words.proofs.Counts.{first-some, last-some, stand_within}

-- ---- tests

unless-passes : (b : Bool) (place : ℕ) → unless b place ≡ None → b ≡ true
unless-passes true place h = refl
unless-passes false place h = absurd cc

unless-none : (b : Bool) (place : ℕ) → b ≡ true → unless b place ≡ None
unless-none b place h = rw h refl

both : (a b : Bool) → (a && b) ≡ true → (a ≡ true) × (b ≡ true)
both true b h = (refl, h)
both false b h = absurd cc

both-true : (a b : Bool) → a ≡ true → b ≡ true → (a && b) ≡ true
both-true a b p q = rw (p, q) refl

-- ---- the command

named-some : (o : Option Command) → is_some o ≡ true → o ≡ Some (unwrap_or o command.Run)
named-some (Some c) h = refl
named-some None h = absurd cc

some-word : (words : List (List ℕ)) → is_some (command_named (word words 0)) ≡ true → 1 ≤ length words
some-word [] h = absurd cc
some-word (w ∷ words) h = omega arith

-- ---- required names

needed : (r s : Bool) → (not r || s) ≡ true → r ≡ true → s ≡ true
needed true s h e = h
needed false s h e = absurd cc

need : (r s : Bool) → (r ≡ true → s ≡ true) → (not r || s) ≡ true
need true s h = h refl
need false s h = refl

abbrev Passes : (Name → Bool) → List Name → Type 0
Passes p [] = Unit {0}
Passes p (n ∷ names) = (p n ≡ true) × Passes p names

every : (p : Name → Bool) (names : List Name) → list_all p names ≡ true → Passes p names
every p [] h = tt
every p (n ∷ names) h = let parts = both (p n) (list_all p names) h in (parts.0, every p names parts.1)

every-true : (p : Name → Bool) (names : List Name) → ((n : Name) → p n ≡ true) → list_all p names ≡ true
every-true p [] h = refl
every-true p (n ∷ names) h = both-true (p n) (list_all p names) (h n) (every-true p names h)

each : (p : Name → Bool) → Passes p all_names → (n : Name) → p n ≡ true
each p all named.Model = all.0
each p all named.Steps = all.1.0
each p all named.Tape = all.1.1.0
each p all named.Dual = all.1.1.1.0
each p all named.Ball = all.1.1.1.1.0
each p all named.Links = all.1.1.1.1.1.0
each p all named.Seed = all.1.1.1.1.1.1.0
each p all named.Workers = all.1.1.1.1.1.1.1.0

-- ---- what is given under a name

module _ (names values : ℕ → List ℕ) (text : List ℕ) where
  abbrev find : ℕ → Option (List ℕ)
  find n = first_to n (λ j. cond (bytes_eq (names j) text) (Some (values j)) None)

  gives-later : (n : ℕ) (o : Option (List ℕ)) → find n ≡ o → (b : Bool) → bytes_eq (names n) text ≡ b
      → (is_some (find n) ≡ true → (j : ℕ) × (j < n) × (names j ≡ text))
      → is_some (or_first o (cond b (Some (values n)) None)) ≡ true → (j : ℕ) × (j < suc n) × (names j ≡ text)
  gives-later n (Some x) e b f before h = let g = before (ap is_some e ∙ refl) in (g.0, omega (arith, g.1), g.2)
  gives-later n None e true f before h = (n, omega arith, (bytes_eq-Decides (names n) text).0 f)
  gives-later n None e false f before h = absurd cc

  gives-from_find : (n : ℕ) → is_some (find n) ≡ true → (j : ℕ) × (j < n) × (names j ≡ text)
  gives-from_find zero h = absurd cc
  gives-from_find (suc n) h = gives-later n (find n) refl (bytes_eq (names n) text) refl (gives-from_find n) h

  find-from_gives : (n j : ℕ) → j < n → names j ≡ text → is_some (find n) ≡ true
  find-from_gives zero j l e = absurd (omega (arith, l))
  find-from_gives (suc n) j l e =
      elim (cases_Bool (j == n)) [
        | inl same ↦ (let s : j ≡ n = grind (arith, nat_tests) in
            let t : bytes_eq (names n) text ≡ true = (bytes_eq-Decides (names n) text).1 (ap names (sym s) ∙ e) in
            rw t (last-some (find n) (values n)))
        | inr other ↦ first-some (find n) _ (find-from_gives n j (grind (arith, nat_tests)) e)
      ]

-- ---- pairs

paired-from_counts : (n : ℕ) → 1 ≤ n → n / 2 ≡ (n - 1) / 2 → n ≡ 2 * ((n - 1) / 2) + 1
paired-from_counts n h e = omega arith

counts-from_paired : (n : ℕ) → n ≡ 2 * ((n - 1) / 2) + 1 → n / 2 ≡ (n - 1) / 2
counts-from_paired n e = omega arith

-- ---- both ways

accepted : (words : List (List ℕ)) → bad_place words ≡ None → AreAccepted words
accepted words h =
    let takes = command_of words in
    let fit_and_given : Option ℕ = or_first (bad_values takes words) (name_missing takes words) in
    let paired_on : Option ℕ = or_first (value_missing words) fit_and_given in
    let a = or_both (bad_command words) (bad_pairs takes words) h in
    let b = or_both (bad_names takes words) paired_on a.1 in
    let c = or_both (value_missing words) fit_and_given b.1 in
    let d = or_both (bad_values takes words) (name_missing takes words) c.1 in
    let known : is_some (command_named (word words 0)) ≡ true = unless-passes _ 1 a.0 in
    let same : (name_count words == value_count words) ≡ true = unless-passes _ (past_end words) c.0 in
    let count : name_count words ≡ value_count words = grind (arith, nat_tests) in
    let names : (j : ℕ) → j < value_count words → stood_before words j < (rule_of takes (name words j)).times =
    λ j l. (Decides-ltb (stood_before words j) (rule_of takes (name words j)).times).0
    (unless-passes _ (name_place j) ((first_none (name_count words) (bad_name takes words)).0 b.0 j (omega (arith, l, count)))) in
    let all = every (is_served takes words) all_names (unless-passes _ (past_end words) d.1) in
    record {
      command = named-some (command_named (word words 0)) known;
      paired = paired-from_counts (length words) (some-word words known) count;
      often = λ text. stand_within (name words) (λ t. (rule_of takes t).times) text (value_count words) names;
      fitting = λ j l. unless-passes _ (value_place j) ((first_none (value_count words) (bad_value takes words)).0 d.0 j l);
      whole = λ n needs. gives-from_find (name words) (value words) (text_of n) (value_count words)
          (needed (rule takes n).required (is_some (given words (text_of n))) (each (is_served takes words) all n) needs);
    }

none-bad : (words : List (List ℕ)) → AreAccepted words → bad_place words ≡ None
none-bad words ok =
    let takes = command_of words in
    let count : name_count words ≡ value_count words = counts-from_paired (length words) ok.paired in
    let e1 : bad_command words ≡ None = unless-none _ 1 (ap is_some ok.command) in
    let name_ok : (j : ℕ) → j < name_count words → bad_name takes words j ≡ None =
    λ j l. let before = count_to-below j (value_count words) (λ i. bytes_eq (name words i) (name words j)) (omega (arith, l, count))
    ((bytes_eq-Decides (name words j) (name words j)).1 refl) in
    let most = ok.often (name words j) in
    unless-none _ (name_place j) ((Decides-ltb (stood_before words j) (rule_of takes (name words j)).times).1 (omega (arith, before, most))) in
    let e2 : bad_names takes words ≡ None = (first_none (name_count words) (bad_name takes words)).1 name_ok in
    let same : (name_count words == value_count words) ≡ true = grind (arith, nat_tests) in
    let e3 : value_missing words ≡ None = unless-none _ (past_end words) same in
    let e4 : bad_values takes words ≡ None = (first_none (value_count words) (bad_value takes words)).1 (λ j l. unless-none _ (value_place j) (ok.fitting j l)) in
    let served : (n : Name) → is_served takes words n ≡ true =
    λ n. need (rule takes n).required (is_some (given words (text_of n)))
    (λ needs. let g = ok.whole n needs in find-from_gives (name words) (value words) (text_of n) (value_count words) g.0 g.1 g.2) in
    let e5 : name_missing takes words ≡ None = unless-none _ (past_end words) (every-true (is_served takes words) all_names served) in
    rw (e1, e2, e3, e4, e5) refl

pub accepted-have_no_bad_place : AcceptedHaveNoBadPlace
accepted-have_no_bad_place words = (accepted words, none-bad words)
