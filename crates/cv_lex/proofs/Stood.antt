-- What is found at the front of a text is the longest that stands there.
use Rattle.std.proofs.Common.{◌≡◌, ℕ, ◌≤◌, Option, Some, List, ◌∷◌, ◌++◌, length, take, drop, sym, ◌∙◌, subst, inl, inr, arith}
use Rattle.std.proofs.lemmas.List.{length-take-le, take-append-drop}
use Rattle.cv_lex.specs.declared.lexeme.Sort.{Sort}
use Rattle.cv_lex.specs.Shapes.{Stands}
use Rattle.cv_lex.proofs.Covers.{Covers, front_size, size_covers}
use Rattle.cv_lex.proofs.Right.{IsRight, size_right}
use Rattle.cv_lex.proofs.Sizes.{size_of}

-- nothing that stands there is longer than what is found
pub no_longer : (other thing : Option Sort) (m n : ℕ) → Covers other m (Some (thing, n)) → m ≤ n
no_longer other thing m n (inl h) = omega arith
no_longer other thing m n (inr h) = omega (arith, h.0)

-- what is found at the front stands there
pub stands : (b : ℕ) (rest : List ℕ) (thing : Option Sort) (n : ℕ) → size_of b rest ≡ Some (thing, n) → Stands thing (take n (b ∷ rest)) (drop n (b ∷ rest)) × (n ≤ length (b ∷ rest))
stands b rest thing n e =
    let right = subst (IsRight (b ∷ rest)) e (size_right b rest) in
    let count : length (take n (b ∷ rest)) ≡ n = length-take-le n (b ∷ rest) right.1 in (
      record {
        is = right.2;
        longest = λ other longer tail split here.
            let P : List ℕ → Type 0 = λ bytes. Covers other (length longer) (front_size bytes) in
            let whole : longer ++ tail ≡ b ∷ rest = sym split ∙ take-append-drop n (b ∷ rest) in
            let covers = subst (Covers other (length longer)) e (subst P whole (size_covers other longer tail here)) in
            omega (arith, count, no_longer other thing (length longer) n covers);
      },
      right.1,
    )
