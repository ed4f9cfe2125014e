-- Each lexeme of a source is a part of it that splits no character.
use Rattle.std.proofs.Common.{◌≡◌, ℕ, zero, suc, ◌+◌, ◌-◌, List, [], ◌∷◌, get_or, take, drop, Result, Ok, Err, refl, ap, ◌∙◌, subst, add-one, arith}
use Rattle.std.specs.Str.{IsUtf8, IsCharBoundary}
use Rattle.std.specs.List.{All, AllByRecursion}
use Rattle.std.proofs.lemmas.Str.{IsCharBoundary-before_ascii, IsCharBoundary-after_ascii}
use Rattle.std.proofs.lemmas.List.{get_or-drop, length-drop}
use Rattle.std.proofs.lemmas.List.Elements.{All-from_recursion}
use Rattle.cv_lex.specs.declared.lexeme.Sort.{Sort}
use Rattle.cv_lex.specs.declared.lexeme.Lexeme.{Lexeme}
use Rattle.cv_lex.specs.declared.lexeme.LexFault.{LexFault}
use Rattle.cv_lex.specs.declared.fronts.Front.{Front}
use Rattle.cv_lex.specs.declared.fronts.Front.TheVariants as fronts
use Rattle.cv_lex.specs.Cuts.{IsCut}
use Rattle.cv_lex.specs.Fronts.{front_of}
use Rattle.cv_lex.specs.Shapes.{IsInLimits}
use Rattle.cv_lex.specs.Words.{bytes_of}
use Rattle.cv_lex.proofs.Agrees.{KeepsLimits, front_limits}
use Rattle.cv_lex.specs.Lexemes.{lexemes, by_front, with_front}
use Rattle.cv_lex.proofs.Edges.{IsPiece, piece}

abbrev AllCut : List ℕ → List Lexeme → Type 0
AllCut source = AllByRecursion (IsCut source)

-- a piece at a place is a part of the source
cut : (source : List ℕ) (at : ℕ) (sort : Sort) (more : ℕ) → IsUtf8 source → IsPiece (drop at source) (fronts.Lexeme sort more) → IsInLimits sort (take (suc more) (drop at source)) → IsCut source (record { sort = sort; at = at; len = more + 1 })
cut source at sort more u p f =
    let first : get_or (drop at source) 0 0 ≡ get_or source at 0 = get_or-drop at source 0 0 ∙ ap (λ n. get_or source n 0) (omega arith) in
    let last = get_or-drop at source more 0 in
    let size = length-drop at source in
    let ends : at + more + 1 ≡ at + (more + 1) = omega arith in
    let count : suc more ≡ at + (more + 1) - at = omega arith in
    let lasts : at + more ≡ at + (more + 1) - 1 = omega arith in
    record {
      some = omega arith;
      quotes = λ e. omega (arith, p.3 e);
      within = omega (arith, p.0);
      fits = subst (λ (n : ℕ). IsInLimits sort (take n (drop at source))) count f;
      start = IsCharBoundary-before_ascii source at (omega (arith, p.0)) (omega (arith, p.1));
      opened = IsCharBoundary-after_ascii source at u (omega (arith, p.0)) (omega (arith, p.1));
      closed = subst (IsCharBoundary source) lasts (IsCharBoundary-before_ascii source (at + more) (omega (arith, p.0)) (omega (arith, p.2)));
      end = subst (IsCharBoundary source) ends (IsCharBoundary-after_ascii source (at + more) u (omega (arith, p.0)) (omega (arith, p.2)));
    }

-- the lexemes behind one are those behind it
behind : (source : List ℕ) (lexeme : Lexeme) (r : Result (List Lexeme) LexFault) (ls : List Lexeme) → IsCut source lexeme → ((ms : List Lexeme) → r ≡ Ok ms → AllCut source ms) → with_front (lexeme ∷ []) r ≡ Ok ls → AllCut source ls
behind source lexeme (Ok ms) ls c all e = let same : lexeme ∷ ms ≡ ls = cc in subst (AllCut source) same (c, all ms refl)
behind source lexeme (Err fault) ls c all e = cc

at_front : (source : List ℕ) (at : ℕ) (front : Front) (next : ℕ → Result (List Lexeme) LexFault) (ls : List Lexeme) → IsUtf8 source → IsPiece (drop at source) front → KeepsLimits (drop at source) front → ((k : ℕ) (ms : List Lexeme) → next k ≡ Ok ms → AllCut source ms) → by_front at front next ≡ Ok ls → AllCut source ls
at_front source at (fronts.Blank more) next ls u p f all e = all more ls e
at_front source at (fronts.Lexeme sort more) next ls u p f all e = behind source _ (next more) ls (cut source at sort more u p f) (all more) e
at_front source at (fronts.Flaw fault) next ls u p f all e = cc

drop-next : (at : ℕ) (source : List ℕ) (x : ℕ) (rest : List ℕ) → x ∷ rest ≡ drop at source → rest ≡ drop (at + 1) source
drop-next zero source x rest e = ap (drop 1) e
drop-next (suc n) [] x rest e = cc
drop-next (suc n) (y ∷ source) x rest e = rw add-one (rw add-one at (drop-next n source x rest e))

cuts : (source : List ℕ) → IsUtf8 source → (at k : ℕ) (bytes : List ℕ) → bytes ≡ drop at source → (ls : List Lexeme) → lexemes at k bytes ≡ Ok ls → AllCut source ls
cuts source u at k [] e ls h = let same : [] ≡ ls = cc in subst (AllCut source) same tt
cuts source u at (suc k) (x ∷ rest) e ls h = cuts source u (at + 1) k rest (drop-next at source x rest e) ls h
cuts source u at zero (x ∷ rest) e ls h =
    at_front source at (front_of at (x ∷ rest)) (λ k. lexemes (at + 1) k rest) ls u
    (subst (λ bytes. IsPiece bytes (front_of at (x ∷ rest))) e (piece at (x ∷ rest) (omega arith)))
    (subst (λ bytes. KeepsLimits bytes (front_of at (x ∷ rest))) e (front_limits at x rest))
    (λ k ms. cuts source u (at + 1) k rest (drop-next at source x rest e) ms) h

-- each lexeme of a source is a part of it
pub all_cut : (source : List ℕ) (ls : List Lexeme) → IsUtf8 source → lexemes 0 0 source ≡ Ok ls → All (IsCut source) ls
all_cut source ls u h = All-from_recursion (IsCut source) ls (cuts source u 0 0 source refl ls h)

-- and keeps the limits of its sort
pub all_fit : (source : List ℕ) (ls : List Lexeme) → IsUtf8 source → lexemes 0 0 source ≡ Ok ls → All (λ lexeme. IsInLimits lexeme.sort (bytes_of source lexeme)) ls
all_fit source ls u h = λ k d within. (all_cut source ls u h k d within).fits
