-- An option in front of words.
use Rattle.std.proofs.Common.{◌≡◌, ℕ, ◌+◌, ◌-◌, ◌≤◌, ◌==◌, List, [], ◌∷◌, Some, None, drop, take, get_or, length, map, option_map, refl, sym, ap, ◌∙◌, arith, IfNone}
use Rattle.std.specs.Prelude.{position}
use Rattle.std.proofs.lemmas.List.{take_rest}
use Rattle.std.specs.declared.option.Option.{Option}
use Rattle.cv_words.specs.declared.options.Setting.{Setting}
use Rattle.cv_words.specs.Asked.{option_by, option_in, setting_of, spaced_option}
use Rattle.cv_words.specs.Items.{parted}

pub if_none : {A : Type 0} (r : Option A) (P : Type 0) → P → IfNone r P
if_none None P p = p
if_none (Some a) P p = tt

-- the words behind the first one
abbrev pub behind : {X : Type 0} → List X → List X
behind words = take (length words - 1) (drop 1 words)

module _ {X : Type 0} (f : X → List ℕ) where
  behind_is : (a : X) (rest : List X) → behind (a ∷ rest) ≡ rest
  behind_is a rest = take_rest (a ∷ rest) 1

  by_mark : (word : List ℕ) (at : ℕ) (rest : List (List ℕ)) (o : Option Setting) → position (λ b. b == 61) word ≡ Some at → o ≡ setting_of (take at word) (drop (at + 1) word) → option_by (parted 61 word) word rest ≡ option_map (λ s. (s, rest)) o
  by_mark word at rest o there says = rw there (rw says refl)

  -- `--NAME=VALUE`
  pub marked : (words : List X) (word : X) (at : ℕ) (o : Option Setting) → 1 ≤ length words → word ≡ get_or words 0 word → position (λ b. b == 61) (f word) ≡ Some at → o ≡ setting_of (take at (f word)) (drop (at + 1) (f word)) → option_in (map f words) ≡ option_map (λ s. (s, map f (behind words))) o
  marked [] word at o one first there says = absurd (omega arith)
  marked (a ∷ rest) word at o one first there says =
      ap (λ (x : X). option_by (parted 61 (f x)) (f x) (map f rest)) (sym first)
      ∙ by_mark (f word) at (map f rest) o there says
      ∙ ap (λ (xs : List X). option_map (λ s. (s, map f xs)) o) (sym (behind_is a rest))

  -- no mark stands in the first word
  pub spaced : (words : List X) (word : X) → 1 ≤ length words → word ≡ get_or words 0 word → position (λ b. b == 61) (f word) ≡ None → option_in (map f words) ≡ spaced_option (f word) (map f (behind words))
  spaced [] word one first none = absurd (omega arith)
  spaced (a ∷ rest) word one first none =
      ap (λ (x : X). option_by (parted 61 (f x)) (f x) (map f rest)) (sym first)
      ∙ rw none refl
      ∙ ap (λ (xs : List X). spaced_option (f word) (map f xs)) (sym (behind_is a rest))

  -- `--NAME VALUE`
  pub valued : (name : List ℕ) (words : List X) (value : X) (o : Option Setting) → 1 ≤ length words → value ≡ get_or words 0 value → o ≡ setting_of name (f value) → spaced_option name (map f words) ≡ option_map (λ s. (s, map f (behind words))) o
  valued name [] value o one first says = absurd (omega arith)
  valued name (a ∷ rest) value o one first says =
      ap (λ (x : X). option_map (λ s. (s, map f rest)) (setting_of name (f x))) (sym first)
      ∙ ap (λ (p : Option Setting). option_map (λ s. (s, map f rest)) p) (sym says)
      ∙ ap (λ (xs : List X). option_map (λ s. (s, map f xs)) o) (sym (behind_is a rest))
