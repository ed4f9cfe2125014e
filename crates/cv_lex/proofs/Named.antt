-- The lexeme of a name is a name.
use Rattle.std.proofs.Common.{◌≡◌, ℕ, ◌+◌, ◌-◌, List, ◌++◌, Some, length, take, drop, Ok, refl, sym, ap, ◌∙◌, subst, arith}
use Rattle.std.specs.List.{All, AllByRecursion}
use Rattle.std.proofs.Math.Seq.{drop-append_seam}
use Rattle.std.proofs.lemmas.List.{drop-drop}
use Rattle.std.proofs.lemmas.List.Elements.{All-from_recursion}
use Rattle.cv_lex.specs.declared.lexeme.Sort.{Sort}
use Rattle.cv_lex.specs.declared.lexeme.Lexeme.{Lexeme}
use Rattle.cv_lex.specs.Cuts.{IsNamed}
use Rattle.cv_lex.specs.Lexemes.{lexemes}
use Rattle.cv_lex.specs.Shapes.{IsName, IsAt}
use Rattle.cv_lex.specs.Spelling.{SpellsLexemes, nothing, blank, lexeme}
use Rattle.cv_lex.proofs.Right.{take-front}
use Rattle.cv_lex.proofs.Spelled.{lexemes_spelled}

-- what is behind the front of what is behind a place
behind : (source : List ℕ) (at : ℕ) (front rest : List ℕ) → front ++ rest ≡ drop at source → rest ≡ drop (at + length front) source
behind source at front rest e = sym (drop-append_seam front rest) ∙ ap (drop (length front)) e ∙ drop-drop (length front) at source

-- the front of what is behind a place
front_there : (source : List ℕ) (at : ℕ) (front rest : List ℕ) → front ++ rest ≡ drop at source → front ≡ take (at + length front - at) (drop at source)
front_there source at front rest e =
    let count : length front ≡ at + length front - at = omega arith in
    sym (take-front front rest) ∙ ap (take (length front)) e ∙ ap (λ n. take n (drop at source)) count

names : (source : List ℕ) (at : ℕ) (bytes : List ℕ) (ls : List Lexeme) → bytes ≡ drop at source → SpellsLexemes at bytes ls → AllByRecursion (IsNamed source) ls
names source at bytes ls e nothing = tt
names source at bytes ls e (blank {rest = rest} front stands more) = names source (at + length front) rest ls (behind source at front rest e) more
names source at bytes ls e (lexeme {rest = rest} {lexemes = others} sort front stands fits more) =
    let there = front_there source at front rest e in (
      λ is. subst IsName there (subst (λ (s : Sort). IsAt (Some s) front rest) is stands.is),
      names source (at + length front) rest others (behind source at front rest e) more,
    )

-- the lexemes of a source that are names
pub all_named : (source : List ℕ) (ls : List Lexeme) → lexemes 0 0 source ≡ Ok ls → All (IsNamed source) ls
all_named source ls h = All-from_recursion (IsNamed source) ls (names source 0 source ls refl (lexemes_spelled source ls h))
