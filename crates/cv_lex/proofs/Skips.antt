-- Bytes that belong to what stood before are skipped.
use Rattle.std.proofs.Common.{◌≡◌, ℕ, zero, suc, ◌+◌, ◌<◌, List, [], ◌∷◌, ◌++◌, length, drop, Result, Ok, Err, refl, sym, ap, ◌∙◌, add-one, append_assoc, arith}
use Rattle.cv_lex.specs.declared.lexeme.Sort.{Sort}
use Rattle.cv_lex.specs.declared.lexeme.Lexeme.{Lexeme}
use Rattle.cv_lex.specs.declared.lexeme.LexFault.{LexFault}
use Rattle.cv_lex.specs.declared.fronts.Front.{Front}
use Rattle.cv_lex.specs.declared.fronts.Front.TheVariants as fronts
use Rattle.cv_lex.specs.Fronts.{front_of}
use Rattle.cv_lex.specs.Lexemes.{lexemes, by_front, with_front}

-- the skipped bytes only move the place
pub lexemes-skip : (at k : ℕ) (bytes : List ℕ) → lexemes at k bytes ≡ lexemes (at + k) 0 (drop k bytes)
lexemes-skip at zero bytes = ap (λ n. lexemes n 0 bytes) (omega arith)
lexemes-skip at (suc k) [] = refl
lexemes-skip at (suc k) (x ∷ rest) = lexemes-skip (at + 1) k rest ∙ ap (λ n. lexemes n 0 (drop k rest)) (omega arith)

-- it matters only what stands behind
by_front-same : (at : ℕ) (front : Front) (f g : ℕ → Result (List Lexeme) LexFault) → ((k : ℕ) → f k ≡ g k) → by_front at front f ≡ by_front at front g
by_front-same at (fronts.Blank more) f g e = e more
by_front-same at (fronts.Lexeme sort more) f g e = ap (with_front (record { sort = sort; at = at; len = more + 1 } ∷ [])) (e more)
by_front-same at (fronts.Flaw fault) f g e = refl

-- the lexemes of a text are what stands at its front, and those of what is left
pub lexemes-front : (at : ℕ) (bytes : List ℕ) → 0 < length bytes → lexemes at 0 bytes ≡ by_front at (front_of at bytes) (λ k. lexemes (at + (k + 1)) 0 (drop (k + 1) bytes))
lexemes-front at [] h = absurd (omega arith)
lexemes-front at (x ∷ rest) h =
    by_front-same at (front_of at (x ∷ rest)) _ _ (λ k.
    lexemes-skip (at + 1) k rest ∙ rw (add-one k) (ap (λ n. lexemes n 0 (drop k rest)) (omega arith)))

-- lexemes in front of lexemes
pub with_front-append : (xs ys : List Lexeme) (r : Result (List Lexeme) LexFault) → with_front xs (with_front ys r) ≡ with_front (xs ++ ys) r
with_front-append xs ys (Ok zs) = ap Ok (sym (append_assoc xs ys zs))
with_front-append xs ys (Err e) = refl

-- a blank is passed
pub lexemes-blank : (at : ℕ) (bytes : List ℕ) (more : ℕ) → 0 < length bytes → fronts.Blank more ≡ front_of at bytes → lexemes at 0 bytes ≡ lexemes (at + (more + 1)) 0 (drop (more + 1) bytes)
lexemes-blank at bytes more h e = lexemes-front at bytes h ∙ rw (← e) refl

-- a lexeme is the next one
pub lexemes-lexeme : (at : ℕ) (bytes : List ℕ) (sort : Sort) (more : ℕ) → 0 < length bytes → fronts.Lexeme sort more ≡ front_of at bytes → lexemes at 0 bytes ≡ with_front (record { sort = sort; at = at; len = more + 1 } ∷ []) (lexemes (at + (more + 1)) 0 (drop (more + 1) bytes))
lexemes-lexeme at bytes sort more h e = lexemes-front at bytes h ∙ rw (← e) refl
