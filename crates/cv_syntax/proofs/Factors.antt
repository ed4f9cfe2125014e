-- Expressions: their readers keep their promises.
use Rattle.std.proofs.Common.{◌≡◌, ℕ, zero, suc, ◌||◌, ◌&&◌, ◌⊎◌, inl, inr, Bool, true, false, not, cond, Option, Some, None, List, [], ◌∷◌, ◌++◌, map, refl, ap, sym, ◌∙◌, subst, rules, arith}
use Rattle.std.specs.List.{AllByRecursion}
use Rattle.std.specs.Str.{bytes_eq}
use Rattle.cv_lex.specs.declared.word.Mark.TheVariants as marks
use Rattle.cv_lex.specs.declared.word.Word.{Word}
use Rattle.cv_lex.specs.declared.word.Word.TheVariants as words
use Rattle.cv_lex.specs.declared.word.Placed.{Placed}
use Rattle.cv_readers.specs.declared.name.Name.{Name}
use Rattle.cv_readers.specs.Reading.{Read, Reader, word_at, found_word, when, is_mark, name_in, name_at, too_deep, first_is, behind}
use Rattle.cv_readers.specs.Combining.{mapped, closed, after, sep}
use Rattle.cv_readers.specs.Slots.{Slot, placed, mark, opening, raise, sep_slots, SomeAll}
use Rattle.cv_readers.proofs.Matching.{BeginsWith}
use Rattle.cv_readers.proofs.Promises.{never, Reads, some_word_reads}
use Rattle.cv_readers.proofs.Changes.{Image, map_reads, rewhole}
use Rattle.cv_readers.proofs.Choices.{Either, pick, pick_reads, Begun, Opens, deep_reads}
use Rattle.cv_readers.proofs.Manies.{either}
use Rattle.cv_readers.proofs.Repeats.{after_mark}
use Rattle.cv_readers.proofs.Marks.{mark_is, when_some}
use Rattle.cv_readers.proofs.Listings.{closed_reads, closed_after, sep_reads, same_pick, opened_reads, inside_slots}
use Rattle.cv_syntax.specs.declared.tree.Match.{Match}
use Rattle.cv_syntax.specs.declared.tree.Factor.{Factor, the_lemmas}
use Rattle.cv_syntax.specs.declared.tree.Factor.TheOpen.{Factor-F}
use Rattle.cv_syntax.specs.declared.tree.Factor.TheViews.{roll-Factor, out-Factor, roll-out-Factor, rolls-Not, rolls-Group, rolls-Name, rolls-Match}
use Rattle.cv_syntax.specs.declared.tree.Factor.TheVariants as factors
use Rattle.cv_syntax.specs.Small.{is_name, match_name, match_at}
use Rattle.cv_syntax.specs.Nested.{lifts, terms_with, lift_with, factor_at, terms_at}
use Rattle.cv_syntax.specs.Spelling.{name_slots, match_slots, expr_slots, factor_slots, terms_slots, all_of, some_all, all_rows, some_all_rows, is_whole, WholeFactor, WholeTerms}
use Rattle.cv_syntax.proofs.Literals.{same_sep}
use Rattle.cv_syntax.proofs.Pieces.{Any, still, match_reads, name_self}

-- ---- words and wholeness, one level down

pub slots-Not : (x : Factor) → factor_slots (factors.Not x) ≡ inside_slots marks.Tilde factor_slots x
slots-Not x = search (rules, the_lemmas)

pub slots-Name : (x : Name) → factor_slots (factors.Name x) ≡ name_slots x
slots-Name x = search (rules, the_lemmas)

pub slots-Match : (m : Match) → factor_slots (factors.Match m) ≡ match_slots m
slots-Match m = search (rules, the_lemmas)

folded-Group : (tss : List (List Factor)) → factor_slots (factors.Group tss) ≡ inside_slots marks.OpenParen (λ xss. expr_slots (λ x. x) xss ++ mark marks.CloseParen ∷ []) (map (map factor_slots) tss)
folded-Group tss = search (rules, the_lemmas)

pub slots-Group : (tss : List (List Factor)) → factor_slots (factors.Group tss) ≡ inside_slots marks.OpenParen (λ xss. terms_slots xss ++ mark marks.CloseParen ∷ []) tss
slots-Group tss =
    folded-Group tss ∙ ap (λ ss. opening marks.OpenParen ∷ raise (ss ++ mark marks.CloseParen ∷ []))
    (same_sep marks.Bar (map factor_slots) (sep_slots marks.Ampersand factor_slots) (sep_slots marks.Ampersand (λ x. x)) (λ xs. same_sep marks.Ampersand factor_slots factor_slots (λ x. x) (λ x. refl) xs) tss)

whole-Not : (x : Factor) → is_whole (factors.Not x) ≡ is_whole x
whole-Not x = search (rules, the_lemmas)

whole-Name : (x : Name) → is_whole (factors.Name x) ≡ not (bytes_eq x.text match_name)
whole-Name x = search (rules, the_lemmas)

whole-Match : (m : Match) → is_whole (factors.Match m) ≡ true
whole-Match m = search (rules, the_lemmas)

whole-Group : (tss : List (List Factor)) → is_whole (factors.Group tss) ≡ some_all_rows (map (map is_whole) tss)
whole-Group tss = search (rules, the_lemmas)

-- ---- tests of each, and each

and_both : (a b : Bool) → (a && b) ≡ true → (a ≡ true) × (b ≡ true)
and_both true b e = (refl, e)
and_both false b e = cc

both_and : (a b : Bool) → a ≡ true → b ≡ true → (a && b) ≡ true
both_and a b e f = rw (e, f) refl

all_to : (xs : List Factor) → all_of (map is_whole xs) ≡ true → AllByRecursion WholeFactor xs
all_to [] e = tt
all_to (x ∷ xs) e = let p = and_both (is_whole x) (all_of (map is_whole xs)) e in (p.0, all_to xs p.1)

all_from : (xs : List Factor) → AllByRecursion WholeFactor xs → all_of (map is_whole xs) ≡ true
all_from [] f = refl
all_from (x ∷ xs) f = both_and (is_whole x) (all_of (map is_whole xs)) f.0 (all_from xs f.1)

some_to : (xs : List Factor) → some_all (map is_whole xs) ≡ true → SomeAll WholeFactor xs
some_to [] e = cc
some_to (x ∷ xs) e = let p = and_both (is_whole x) (all_of (map is_whole xs)) e in (p.0, all_to xs p.1)

some_from : (xs : List Factor) → SomeAll WholeFactor xs → some_all (map is_whole xs) ≡ true
some_from [] f = absurd f
some_from (x ∷ xs) f = both_and (is_whole x) (all_of (map is_whole xs)) f.0 (all_from xs f.1)

rows_to : (tss : List (List Factor)) → all_rows (map (map is_whole) tss) ≡ true → AllByRecursion (SomeAll WholeFactor) tss
rows_to [] e = tt
rows_to (ts ∷ tss) e = let p = and_both (some_all (map is_whole ts)) (all_rows (map (map is_whole) tss)) e in (some_to ts p.0, rows_to tss p.1)

rows_from : (tss : List (List Factor)) → AllByRecursion (SomeAll WholeFactor) tss → all_rows (map (map is_whole) tss) ≡ true
rows_from [] f = refl
rows_from (ts ∷ tss) f = both_and (some_all (map is_whole ts)) (all_rows (map (map is_whole) tss)) (some_from ts f.0) (rows_from tss f.1)

terms_to : (tss : List (List Factor)) → some_all_rows (map (map is_whole) tss) ≡ true → WholeTerms tss
terms_to [] e = cc
terms_to (ts ∷ tss) e = let p = and_both (some_all (map is_whole ts)) (all_rows (map (map is_whole) tss)) e in (some_to ts p.0, rows_to tss p.1)

terms_from : (tss : List (List Factor)) → WholeTerms tss → some_all_rows (map (map is_whole) tss) ≡ true
terms_from [] f = absurd f
terms_from (ts ∷ tss) f = both_and (some_all (map is_whole ts)) (all_rows (map (map is_whole) tss)) (some_from ts f.0) (rows_from tss f.1)

-- ---- names that are no match

NotMatch : Name → Type 0
NotMatch x = not (bytes_eq x.text match_name) ≡ true

plain_in : ℕ → Word → Option Name
plain_in at (words.Name text) = when (not (bytes_eq text match_name)) (record { text = text; at = at })
plain_in at _ = None

plain_good : (at : ℕ) (w : Word) (x : Name) → plain_in at w ≡ Some x → ((words.Name x.text ≡ w) × (x.at ≡ at)) × NotMatch x
unfolding plain_in NotMatch
plain_good at (words.Name text) x e =
    let p = when_some (not (bytes_eq text match_name)) (record { text = text; at = at }) x e in
    ((ap (λ z. words.Name z.text) (sym p.1), ap (λ z. z.at) (sym p.1)), ap (λ z. not (bytes_eq z.text match_name)) (sym p.1) ∙ p.0)
plain_good at _ x e = cc

plain_back : (at : ℕ) (w : Word) (x : Name) → NotMatch x → words.Name x.text ≡ w → x.at ≡ at → plain_in at w ≡ Some x
unfolding plain_in NotMatch
plain_back at w x f e a = ap (plain_in at) (sym e) ∙ ap (λ b. when b (record { text = x.text; at = at })) f ∙ ap (λ z. Some (record { text = x.text; at = z })) (sym a)

plain_reads : (n : ℕ) → Reads n (word_at (λ w. plain_in w.at w.word)) name_slots NotMatch never still
unfolding NotMatch
plain_reads n =
    some_word_reads n (λ w. plain_in w.at w.word) (λ x. placed (words.Name x.text) x.at) NotMatch (λ x. omega arith)
    (λ w x e. plain_good w.at w.word x e) (λ w x f m. plain_back w.at w.word x f m.0 m.1) (record { text = []; at = 0 }) refl

plain_word : (w : Word) (at : ℕ) → is_name match_name w ≡ false → name_in at w ≡ plain_in at w
unfolding plain_in
plain_word (words.Name text) at e = ap (λ b. when (not b) (record { text = text; at = at })) (sym e)
plain_word (words.Reserved r) at e = refl
plain_word (words.Int n) at e = refl
plain_word (words.Fraction text) at e = refl
plain_word (words.Text text) at e = refl
plain_word (words.Mark m) at e = refl

plain_same : (ws : List Placed) → first_is (is_name match_name) ws ≡ false → name_at ws ≡ word_at (λ w. plain_in w.at w.word) ws
plain_same [] e = refl
plain_same (w ∷ ws) e = ap (λ o. found_word o w ws) (plain_word w.word w.at e)

other_cond : {X : Type 0} (b : Bool) (a c d : Read X) → (b ≡ false → c ≡ d) → cond b a c ≡ cond b a d
other_cond true a c d same = refl
other_cond false a c d same = same refl

same_other : {X : Type 0} (p : Word → Bool) (A B C : Reader X) → ((ws : List Placed) → first_is p ws ≡ false → B ws ≡ C ws) → (ws : List Placed) → pick p A B ws ≡ pick p A C ws
same_other p A B C same ws = other_cond (first_is p ws) (A ws) (B ws) (C ws) (same ws)

-- ---- what a factor is

abbrev IsLift : Factor → Type 0
IsLift = Either (Image factors.Not WholeFactor) (Image factors.Group WholeTerms)

abbrev IsFlat : Factor → Type 0
IsFlat = Either (Image factors.Match Any) (Image factors.Name NotMatch)

abbrev IsFactor : Factor → Type 0
IsFactor = Either IsLift IsFlat

shape_of : (l : Factor-F Factor) → is_whole (roll-Factor l) ≡ true → IsFactor (roll-Factor l)
unfolding NotMatch
shape_of (Factor-F.Not x) e = inl (inl (record { from = x; fine = sym (whole-Not x) ∙ ap is_whole (sym (rolls-Not x)) ∙ e; same = sym (rolls-Not x) }))
shape_of (Factor-F.Group tss) e = inl (inr (record { from = tss; fine = terms_to tss (sym (whole-Group tss) ∙ ap is_whole (sym (rolls-Group tss)) ∙ e); same = sym (rolls-Group tss) }))
shape_of (Factor-F.Name x) e = inr (inr (record { from = x; fine = sym (whole-Name x) ∙ ap is_whole (sym (rolls-Name x)) ∙ e; same = sym (rolls-Name x) }))
shape_of (Factor-F.Match m) e = inr (inl (record { from = m; fine = tt; same = sym (rolls-Match m) }))

shape : (x : Factor) → WholeFactor x → IsFactor x
shape x f = subst IsFactor (roll-out-Factor x) (shape_of (out-Factor x) (ap is_whole (roll-out-Factor x) ∙ f))

lift_whole : (x : Factor) → IsLift x → WholeFactor x
lift_whole x (inl f) = ap is_whole (sym f.same) ∙ whole-Not f.from ∙ f.fine
lift_whole x (inr f) = ap is_whole (sym f.same) ∙ whole-Group f.from ∙ terms_from f.from f.fine

whole_of : (x : Factor) → IsFactor x → WholeFactor x
unfolding NotMatch
whole_of x (inl f) = lift_whole x f
whole_of x (inr (inl f)) = ap is_whole (sym f.same) ∙ whole-Match f.from
whole_of x (inr (inr f)) = ap is_whole (sym f.same) ∙ whole-Name f.from ∙ f.fine

-- ---- first words

leads : (p : Word → Bool) (b : Bool) (x y : Factor) (ss : List Slot) → x ≡ y → factor_slots x ≡ ss → BeginsWith p b ss → BeginsWith p b (factor_slots y)
leads p b x y ss e f l = subst (BeginsWith p b) (sym f ∙ ap factor_slots e) l

lift_leads : (x : Factor) → IsLift x → BeginsWith lifts true (factor_slots x)
lift_leads x (inl f) = leads lifts true (factors.Not f.from) x _ f.same (slots-Not f.from) refl
lift_leads x (inr f) = leads lifts true (factors.Group f.from) x _ f.same (slots-Group f.from) refl

flat_leads : (x : Factor) → IsFlat x → BeginsWith lifts false (factor_slots x)
flat_leads x (inl f) = leads lifts false (factors.Match f.from) x _ f.same (slots-Match f.from) refl
flat_leads x (inr f) = leads lifts false (factors.Name f.from) x _ f.same (slots-Name f.from) refl

not_false : (b : Bool) → not b ≡ true → b ≡ false
not_false true e = cc
not_false false e = refl

lift_opens : (x : Factor) → IsLift x → Opens (factor_slots x)
lift_opens x (inl f) = subst Opens (sym (slots-Not f.from) ∙ ap factor_slots f.same) refl
lift_opens x (inr f) = subst Opens (sym (slots-Group f.from) ∙ ap factor_slots f.same) refl

-- ---- factors of no level

flat_reads : (n : ℕ) → Reads n (pick (is_name match_name) (λ ws. mapped factors.Match (match_at n ws)) (λ ws. mapped factors.Name (name_at ws))) factor_slots IsFlat never still
unfolding NotMatch
flat_reads n =
    let M : Reader Factor = λ ws. mapped factors.Match (match_at n ws) in
    let N : Reader Factor = λ ws. mapped factors.Name (name_at ws) in
    let P : Reader Factor = λ ws. mapped factors.Name (word_at (λ w. plain_in w.at w.word) ws) in
    rewhole n (pick (is_name match_name) M P) (pick (is_name match_name) M N) factor_slots IsFlat IsFlat never still
    (same_other (is_name match_name) M N P (λ ws e. ap (mapped factors.Name) (plain_same ws e))) (λ x f. f) (λ x f. f)
    (pick_reads n (is_name match_name) M P factor_slots (Image factors.Match Any) (Image factors.Name NotMatch) still
    (map_reads n (match_at n) factors.Match match_slots factor_slots Any never still still slots-Match (λ x. refl) (match_reads n))
    (map_reads n (word_at (λ w. plain_in w.at w.word)) factors.Name name_slots factor_slots NotMatch never still still slots-Name (λ x. refl) (plain_reads n))
    (λ x f. leads (is_name match_name) true (factors.Match f.from) x _ f.same (slots-Match f.from) (name_self match_name))
    (λ x f. leads (is_name match_name) false (factors.Name f.from) x _ f.same (slots-Name f.from) (not_false (bytes_eq f.from.text match_name) f.fine)))

-- ---- terms

-- `|` and `&` go on with an expression
abbrev pub terms_cont : Word → Bool
terms_cont = either (is_mark marks.Bar) (either (is_mark marks.Ampersand) never)

abbrev no_match : Match
no_match = record { group = []; fields = [] }

abbrev a_factor : Factor
a_factor = factors.Match no_match

pub some_terms : List (List Factor)
some_terms = (a_factor ∷ []) ∷ []

pub some_whole : WholeTerms some_terms
unfolding some_terms
some_whole = ((whole-Match no_match, tt), tt)

terms_reads_of : (n : ℕ) (factor : Reader Factor) → Reads n factor factor_slots WholeFactor never still → Reads n (terms_with factor) terms_slots WholeTerms never (λ _. terms_cont)
terms_reads_of n factor reads =
    sep_reads n marks.Bar (sep marks.Ampersand factor) (sep_slots marks.Ampersand factor_slots) (SomeAll WholeFactor) (either (is_mark marks.Ampersand) never) (a_factor ∷ []) (whole-Match no_match, tt) refl
    (sep_reads n marks.Ampersand factor factor_slots WholeFactor never a_factor (whole-Match no_match) refl reads)

-- ---- `~` and parentheses

lift_reads : (k : ℕ) (factor : Reader Factor) → Reads k factor factor_slots WholeFactor never still → Reads (suc k) (lift_with factor) factor_slots IsLift never still
unfolding some_terms
lift_reads k factor reads =
    let T : Reader (List (List Factor)) = λ ws. closed marks.CloseParen (terms_with factor ws) in
    let A : Reader Factor = λ ws. mapped factors.Not (after marks.Tilde factor ws) in
    let A' : Reader Factor = λ ws. mapped factors.Not (factor (behind ws)) in
    let B : Reader Factor = λ ws. mapped factors.Group (after marks.OpenParen T ws) in
    let B' : Reader Factor = λ ws. mapped factors.Group (closed marks.CloseParen (after marks.OpenParen (terms_with factor) ws)) in
    rewhole (suc k) (pick (is_mark marks.Tilde) A B) (lift_with factor) factor_slots IsLift IsLift never still
    (λ ws. same_pick (is_mark marks.Tilde) A' A B' (λ ts e. ap (mapped factors.Not) (sym (after_mark marks.Tilde factor ts e))) ws
    ∙ ap (λ z. cond (first_is (is_mark marks.Tilde) ws) (A ws) (mapped factors.Group z)) (closed_after marks.OpenParen marks.CloseParen (terms_with factor) ws)) (λ x f. f) (λ x f. f)
    (pick_reads (suc k) (is_mark marks.Tilde) A B factor_slots (Image factors.Not WholeFactor) (Image factors.Group WholeTerms) still
    (map_reads (suc k) (after marks.Tilde factor) factors.Not (inside_slots marks.Tilde factor_slots) factor_slots WholeFactor never still still slots-Not (λ x. refl) (opened_reads k marks.Tilde factor factor_slots WholeFactor still a_factor (whole-Match no_match) reads))
    (map_reads (suc k) (after marks.OpenParen T) factors.Group (inside_slots marks.OpenParen (λ xss. terms_slots xss ++ mark marks.CloseParen ∷ [])) factor_slots WholeTerms never still still slots-Group (λ x. refl)
    (opened_reads k marks.OpenParen T (λ xss. terms_slots xss ++ mark marks.CloseParen ∷ []) WholeTerms still some_terms some_whole
    (closed_reads k marks.CloseParen (terms_with factor) terms_slots WholeTerms (λ _. terms_cont) (λ x f. refl) (terms_reads_of k factor reads))))
    (λ x f. leads (is_mark marks.Tilde) true (factors.Not f.from) x _ f.same (slots-Not f.from) refl)
    (λ x f. leads (is_mark marks.Tilde) false (factors.Group f.from) x _ f.same (slots-Group f.from) refl))

or_cases : (a b : Bool) → (a || b) ≡ true → (a ≡ true) ⊎ (b ≡ true)
or_cases true b e = inl refl
or_cases false b e = inr e

begun_by : (w : Placed) → (is_mark marks.Tilde w.word ≡ true) ⊎ (is_mark marks.OpenParen w.word ≡ true) → Begun factor_slots IsLift w
unfolding some_terms
begun_by w (inl e) = record { tree = factors.Not a_factor; s = opening marks.Tilde; more = _; split = slots-Not a_factor; here = (mark_is marks.Tilde w.word e, tt); level = refl; fine = inl (record { from = a_factor; fine = whole-Match no_match; same = refl }) }
begun_by w (inr e) = record { tree = factors.Group some_terms; s = opening marks.OpenParen; more = _; split = slots-Group some_terms; here = (mark_is marks.OpenParen w.word e, tt); level = refl; fine = inr (record { from = some_terms; fine = some_whole; same = refl }) }

pub factor_reads : (n : ℕ) → Reads n (factor_at n) factor_slots WholeFactor never still
unfolding factor_at
factor_reads zero =
    let F : Reader Factor = pick (is_name match_name) (λ ws. mapped factors.Match (match_at 0 ws)) (λ ws. mapped factors.Name (name_at ws)) in
    rewhole 0 (pick lifts too_deep F) (factor_at 0) factor_slots IsFactor WholeFactor never still (λ ws. refl) (λ x f. whole_of x f) (λ x f. shape x f)
    (deep_reads lifts F factor_slots IsLift IsFlat still (flat_reads 0) lift_opens lift_leads flat_leads (λ w e. begun_by w (or_cases (is_mark marks.Tilde w.word) (is_mark marks.OpenParen w.word) e)))
factor_reads (suc k) =
    let F : Reader Factor = pick (is_name match_name) (λ ws. mapped factors.Match (match_at (suc k) ws)) (λ ws. mapped factors.Name (name_at ws)) in
    rewhole (suc k) (pick lifts (lift_with (factor_at k)) F) (factor_at (suc k)) factor_slots IsFactor WholeFactor never still (λ ws. refl) (λ x f. whole_of x f) (λ x f. shape x f)
    (pick_reads (suc k) lifts (lift_with (factor_at k)) F factor_slots IsLift IsFlat still (lift_reads k (factor_at k) (factor_reads k)) (flat_reads (suc k)) lift_leads flat_leads)

pub terms_reads : (n : ℕ) → Reads n (terms_at n) terms_slots WholeTerms never (λ _. terms_cont)
unfolding terms_at
terms_reads n = terms_reads_of n (factor_at n) (factor_reads n)
