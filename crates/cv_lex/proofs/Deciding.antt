-- A fault to which a text leads is its answer.
use Rattle.std.proofs.Common.{◌≡◌, ℕ, suc, ◌+◌, ◌-◌, Option, Some, None, Err, List, [], ◌∷◌, ◌++◌, length, take, drop, refl, sym, ap, ◌∙◌, subst, inl, inr, arith}
use Rattle.cv_lex.specs.declared.lexeme.Sort.{Sort}
use Rattle.cv_lex.specs.declared.lexeme.Sort.TheVariants as sorts
use Rattle.cv_lex.specs.declared.lexeme.LexFault.{LexFault}
use Rattle.cv_lex.specs.declared.lexeme.LexFault.TheVariants as faults
use Rattle.cv_lex.specs.declared.fronts.Front.{Front}
use Rattle.cv_lex.specs.declared.fronts.Front.TheVariants as fronts
use Rattle.cv_lex.specs.Faults.{ReadsOn, here, blank, lexeme, NothingStands, OpensComment, Exceeds, IsFaultAt, HasFault}
use Rattle.cv_lex.specs.Fronts.{front_of}
use Rattle.cv_lex.specs.Lexemes.{lexemes, by_front}
use Rattle.cv_lex.specs.Shapes.{Stands, IsInLimits}
use Rattle.cv_lex.specs.Texts.{said_from, bad_of}
use Rattle.cv_lex.proofs.Agrees.{Agrees, front_agrees}
use Rattle.cv_lex.proofs.Causes.{Causes, front_causes}
use Rattle.cv_lex.proofs.Covers.{Covers, front_size, size_covers}
use Rattle.cv_lex.proofs.Right.{take-front}
use Rattle.cv_lex.proofs.Sizes.{Size, size_of}
use Rattle.cv_lex.proofs.Spelled.{IsFound, found, thing_same, size_same, complete_blank, complete_lexeme}
use Rattle.cv_lex.proofs.Stood.{stands}
use Rattle.std.proofs.lemmas.List.{take-append-drop}

-- what stands at the front is found
met : (left front tail : List ℕ) (thing : Option Sort) → left ≡ front ++ tail → Stands thing front tail → IsFound thing (length front) left
met left front tail thing e s =
    let P : List ℕ → Type 0 = λ bytes. Covers thing (length front) (front_size bytes) in
    found thing front left (λ other longer rest split h. s.longest other longer rest (sym e ∙ split) h) (subst P (sym e) (size_covers thing front tail s.is))

-- where nothing stands nothing is found
none_found : (b : ℕ) (rest : List ℕ) (size : Size) → size_of b rest ≡ size → NothingStands (b ∷ rest) → size ≡ None
none_found b rest None e n = refl
none_found b rest (Some found) e n =
    absurd (n found.0 (take found.1 (b ∷ rest)) (drop found.1 (b ∷ rest)) (sym (take-append-drop found.1 (b ∷ rest))) (stands b rest found.0 found.1 e).0.is)

-- the first bytes of what stands there
first_of : (left front tail : List ℕ) → left ≡ front ++ tail → front ≡ take (length front) left
first_of left front tail e = sym (ap (take (length front)) e ∙ take-front front tail)

exceeding : (sort : Sort) (b : ℕ) (rest : List ℕ) → Exceeds sort (b ∷ rest) → (n : ℕ) × (size_of b rest ≡ Some (Some sort, n)) × (IsInLimits sort (take n (b ∷ rest)) → ⊥)
exceeding sort b rest x =
    let front = x.0 in
    (length front, met (b ∷ rest) front x.1 (Some sort) x.2 x.3, λ fit. x.4 (subst (IsInLimits sort) (sym (first_of (b ∷ rest) front x.1 x.2)) fit))

-- the cause by what is found
cause_of : (at b : ℕ) (rest : List ℕ) (fault : LexFault) → IsFaultAt fault at (b ∷ rest) → Causes at (b ∷ rest) (fronts.Flaw fault) (size_of b rest)
cause_of at b rest (faults.BadChar p) h = (h.0, none_found b rest (size_of b rest) refl h.2, h.3, h.4)
cause_of at b rest (faults.OpenText p) h = (h.0, none_found b rest (size_of b rest) refl h.1, h.2, h.3)
cause_of at b rest (faults.OpenComment p) h = (h.0, none_found b rest (size_of b rest) refl h.1, h.2)
cause_of at b rest (faults.WideNumber p) h = let x = exceeding sorts.Int b rest h.1 in (h.0, x.0, x.1, x.2)
cause_of at b rest (faults.BadEscape p) h =
    let x = h.2 in
    let front = x.0 in
    let P : List ℕ → Type 0 = λ bytes. bad_of (said_from 0 0 (take (length bytes - 2) (drop 1 bytes))) ≡ Some x.2 in
    (x.2, length front, h.1 ∙ ap (λ (d : ℕ). at + d) x.6, met (b ∷ rest) front x.1 (Some sorts.Text) x.3 x.4, subst P (first_of (b ∷ rest) front x.1 x.3) x.5)
cause_of at b rest (faults.LongName p) h = let x = exceeding sorts.Name b rest h.1 in (h.0, x.0, x.1, x.2)
cause_of at b rest faults.OutOfMemory h = absurd h

-- what is found, in one number
abbrev sort_tag : Option Sort → ℕ
sort_tag None = 1
sort_tag (Some sorts.Name) = 2
sort_tag (Some sorts.Int) = 3
sort_tag (Some sorts.Fraction) = 4
sort_tag (Some sorts.Text) = 5
sort_tag (Some sorts.Mark) = 6

abbrev tag : Size → ℕ
tag None = 0
tag (Some found) = sort_tag found.0

abbrev fault_tag : LexFault → ℕ
fault_tag (faults.BadChar p) = 0
fault_tag (faults.OpenText p) = 0
fault_tag (faults.OpenComment p) = 0
fault_tag (faults.WideNumber p) = 3
fault_tag (faults.BadEscape p) = 5
fault_tag (faults.LongName p) = 2
fault_tag faults.OutOfMemory = 9

tag_is : (at : ℕ) (bytes : List ℕ) (size : Size) (fault : LexFault) → Causes at bytes (fronts.Flaw fault) size → tag size ≡ fault_tag fault
tag_is at bytes size (faults.BadChar p) c = ap tag c.1
tag_is at bytes size (faults.OpenText p) c = ap tag c.1
tag_is at bytes size (faults.OpenComment p) c = ap tag c.1
tag_is at bytes size (faults.WideNumber p) c = ap tag c.2
tag_is at bytes size (faults.BadEscape p) c = ap tag c.3
tag_is at bytes size (faults.LongName p) c = ap tag c.2
tag_is at bytes size faults.OutOfMemory c = absurd c

never_blank : (fault : LexFault) → 1 ≡ fault_tag fault → ⊥
never_blank (faults.BadChar p) e = omega (arith, e)
never_blank (faults.OpenText p) e = omega (arith, e)
never_blank (faults.OpenComment p) e = omega (arith, e)
never_blank (faults.WideNumber p) e = omega (arith, e)
never_blank (faults.BadEscape p) e = omega (arith, e)
never_blank (faults.LongName p) e = omega (arith, e)
never_blank faults.OutOfMemory e = omega (arith, e)

-- a lexeme that fits is no fault
over : (sort other : Sort) (bytes : List ℕ) (m n : ℕ) (size : Size) → size ≡ Some (Some sort, m) → size ≡ Some (Some other, n) → IsInLimits other (take n bytes) → IsInLimits sort (take m bytes)
over sort other bytes m n size e f fit =
    let thing : Some other ≡ Some sort = thing_same (Some other) (Some sort) n m (sym f ∙ e) in
    let kind : other ≡ sort = cc in
    let P : Sort → Type 0 = λ s. IsInLimits s (take m bytes) in
    subst P kind (subst (λ (k : ℕ). IsInLimits other (take k bytes)) (size_same (Some other) (Some sort) n m (sym f ∙ e)) fit)

no_lexeme : (at : ℕ) (bytes : List ℕ) (size : Size) (sort : Sort) (n : ℕ) (fault : LexFault) → size ≡ Some (Some sort, n) → IsInLimits sort (take n bytes) → Causes at bytes (fronts.Flaw fault) size → ⊥
no_lexeme at bytes size sort n (faults.BadChar p) e fit c = let same : ◌≡◌ {A = Size} None (Some (Some sort, n)) = sym c.1 ∙ e in cc
no_lexeme at bytes size sort n (faults.OpenText p) e fit c = let same : ◌≡◌ {A = Size} None (Some (Some sort, n)) = sym c.1 ∙ e in cc
no_lexeme at bytes size sort n (faults.OpenComment p) e fit c = let same : ◌≡◌ {A = Size} None (Some (Some sort, n)) = sym c.1 ∙ e in cc
no_lexeme at bytes size sort n (faults.WideNumber p) e fit c = c.3 (over sorts.Int sort bytes c.1 n size c.2 e fit)
no_lexeme at bytes size sort n (faults.BadEscape p) e fit c =
    let good = over sorts.Text sort bytes c.1 n size c.3 e fit in
    let same : None ≡ Some c.0 = sym good ∙ c.4 in cc
no_lexeme at bytes size sort n (faults.LongName p) e fit c = c.3 (over sorts.Name sort bytes c.1 n size c.2 e fit)
no_lexeme at bytes size sort n faults.OutOfMemory e fit c = c

-- two causes are one
same_escape : (at : ℕ) (bytes : List ℕ) (size : Size) (p q : ℕ) → Causes at bytes (fronts.Flaw (faults.BadEscape p)) size → Causes at bytes (fronts.Flaw (faults.BadEscape q)) size → p ≡ q
same_escape at bytes size p q c d =
    let count : d.1 ≡ c.1 = size_same (Some sorts.Text) (Some sorts.Text) d.1 c.1 (sym d.3 ∙ c.3) in
    let P : ℕ → Type 0 = λ n. bad_of (said_from 0 0 (take (length (take n bytes) - 2) (drop 1 (take n bytes)))) ≡ Some d.0 in
    let both : Some c.0 ≡ Some d.0 = sym c.4 ∙ subst P count d.4 in
    let bad : c.0 ≡ d.0 = cc in
    omega (arith, c.2, d.2, bad)

same_fault : (at : ℕ) (bytes : List ℕ) (size : Size) (g f : LexFault) → Causes at bytes (fronts.Flaw g) size → Causes at bytes (fronts.Flaw f) size → g ≡ f
same_fault at bytes size (faults.BadChar p) (faults.BadChar q) c d = ap faults.BadChar (c.0 ∙ sym d.0)
same_fault at bytes size (faults.BadChar p) (faults.OpenText q) c d = absurd (c.2 d.2)
same_fault at bytes size (faults.BadChar p) (faults.OpenComment q) c d = absurd (c.3 d.2)
same_fault at bytes size (faults.OpenText p) (faults.BadChar q) c d = absurd (d.2 c.2)
same_fault at bytes size (faults.OpenText p) (faults.OpenText q) c d = ap faults.OpenText (c.0 ∙ sym d.0)
same_fault at bytes size (faults.OpenText p) (faults.OpenComment q) c d = absurd (c.3 d.2)
same_fault at bytes size (faults.OpenComment p) (faults.BadChar q) c d = absurd (d.3 c.2)
same_fault at bytes size (faults.OpenComment p) (faults.OpenText q) c d = absurd (d.3 c.2)
same_fault at bytes size (faults.OpenComment p) (faults.OpenComment q) c d = ap faults.OpenComment (c.0 ∙ sym d.0)
same_fault at bytes size (faults.WideNumber p) (faults.WideNumber q) c d = ap faults.WideNumber (c.0 ∙ sym d.0)
same_fault at bytes size (faults.LongName p) (faults.LongName q) c d = ap faults.LongName (c.0 ∙ sym d.0)
same_fault at bytes size (faults.BadEscape p) (faults.BadEscape q) c d = ap faults.BadEscape (same_escape at bytes size p q c d)
same_fault at bytes size faults.OutOfMemory f c d = absurd c
same_fault at bytes size g f c d = absurd (omega (arith, tag_is at bytes size g c, tag_is at bytes size f d))

-- so the front is that fault
front_is : (at : ℕ) (bytes : List ℕ) (size : Size) (front : Front) (fault : LexFault) → Agrees bytes front size → Causes at bytes front size → Causes at bytes (fronts.Flaw fault) size → front ≡ fronts.Flaw fault
front_is at bytes size (fronts.Blank more) fault a c d =
    let one : 1 ≡ fault_tag fault = sym (ap tag a) ∙ tag_is at bytes size fault d in
    absurd (never_blank fault one)
front_is at bytes size (fronts.Lexeme sort more) fault a c d = absurd (no_lexeme at bytes size sort (suc more) fault a.0 a.1 d)
front_is at bytes size (fronts.Flaw other) fault a c d = ap fronts.Flaw (same_fault at bytes size other fault c d)

no_opening : OpensComment [] → ⊥
no_opening (tail, inl e) = cc
no_opening (tail, inr e) = cc

-- a fault has bytes
no_fault : (at : ℕ) (fault : LexFault) → IsFaultAt fault at [] → ⊥
no_fault at (faults.BadChar p) h = omega (arith, h.1)
no_fault at (faults.OpenText p) h = let same : [] ≡ 34 ∷ h.2.0 = h.2.1 in cc
no_fault at (faults.OpenComment p) h = no_opening h.2
no_fault at (faults.WideNumber p) h = let x = h.1 in met [] x.0 x.1 (Some sorts.Int) x.2 x.3
no_fault at (faults.BadEscape p) h = let x = h.2 in met [] x.0 x.1 (Some sorts.Text) x.3 x.4
no_fault at (faults.LongName p) h = let x = h.1 in met [] x.0 x.1 (Some sorts.Name) x.2 x.3
no_fault at faults.OutOfMemory h = h

fault_here : (at : ℕ) (left : List ℕ) (fault : LexFault) → IsFaultAt fault at left → lexemes at 0 left ≡ Err fault
fault_here at [] fault h = absurd (no_fault at fault h)
fault_here at (b ∷ rest) fault h =
    ap (λ (front : Front). by_front at front (λ k. lexemes (at + 1) k rest))
    (front_is at (b ∷ rest) (size_of b rest) (front_of at (b ∷ rest)) fault (front_agrees at b rest) (front_causes at b rest) (cause_of at b rest fault h))

-- a fault to which the text leads is the answer
fault_there : (at place : ℕ) (bytes left : List ℕ) (fault : LexFault) → ReadsOn at bytes place left → IsFaultAt fault place left → lexemes at 0 bytes ≡ Err fault
fault_there at place bytes left fault here h = fault_here at bytes fault h
fault_there at place bytes left fault (blank {rest = rest} front s l) h =
    complete_blank at front rest (front ++ rest) (Err fault) refl (met (front ++ rest) front rest None refl s) (fault_there (at + length front) place rest left fault l h)
fault_there at place bytes left fault (lexeme {rest = rest} sort front s f l) h =
    complete_lexeme at sort front rest (front ++ rest) (Err fault) refl (met (front ++ rest) front rest (Some sort) refl s) f (fault_there (at + length front) place rest left fault l h)

pub fault_only : (bytes : List ℕ) (fault : LexFault) → HasFault bytes fault → lexemes 0 0 bytes ≡ Err fault
fault_only bytes fault h = fault_there 0 h.0 bytes h.1 fault h.2 h.3
