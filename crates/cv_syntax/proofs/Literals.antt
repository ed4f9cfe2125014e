-- Literals: their readers keep their promises.
use Rattle.std.proofs.Common.{◌≡◌, ℕ, zero, suc, ◌≤◌, ◌||◌, ◌⊎◌, inl, inr, ℤ, Bool, true, false, Option, Some, None, IfSome, List, [], ◌∷◌, ◌++◌, map, refl, ap, ap₂, sym, ◌∙◌, subst, rules, arith}
use Rattle.std.specs.List.{AllByRecursion}
use Rattle.cv_token.specs.declared.pairs.Pair.{Pair}
use Rattle.cv_lex.specs.declared.word.Mark.{Mark}
use Rattle.cv_lex.specs.declared.word.Mark.TheVariants as marks
use Rattle.cv_lex.specs.declared.word.Reserved.{Reserved}
use Rattle.cv_lex.specs.declared.word.Reserved.TheVariants as reserved
use Rattle.cv_lex.specs.declared.word.Word.{Word}
use Rattle.cv_lex.specs.declared.word.Word.TheVariants as words
use Rattle.cv_lex.specs.declared.word.Placed.{Placed}
use Rattle.cv_readers.specs.Reading.{Reader, word_at, found_word, is_mark, text_at, too_deep, behind}
use Rattle.cv_readers.specs.Combining.{mapped, after, listed}
use Rattle.cv_readers.specs.Slots.{Slot, just, mark, opening, raise, all_slots, sep_slots, listed_slots}
use Rattle.cv_readers.proofs.Matching.{BeginsWith}
use Rattle.cv_readers.proofs.Promises.{never, Reads, word_reads}
use Rattle.cv_readers.proofs.Chains.{chain}
use Rattle.cv_readers.proofs.Changes.{Image, map_reads, rewhole}
use Rattle.cv_readers.proofs.Choices.{Either, pick, pick_reads, Begun, Opens, deep_reads}
use Rattle.cv_readers.proofs.Places.{Unplaced}
use Rattle.cv_readers.proofs.Repeats.{after_mark}
use Rattle.cv_readers.proofs.Marks.{text_reads, mark_is}
use Rattle.cv_readers.proofs.Listings.{after_reads, listed_reads, same_pick, opened_reads, inside_slots, parts_reads, quiet}
use Rattle.cv_syntax.specs.declared.tree.Literal.{Literal, the_lemmas}
use Rattle.cv_syntax.specs.declared.tree.Literal.TheOpen.{Literal-F}
use Rattle.cv_syntax.specs.declared.tree.Literal.TheViews.{roll-Literal, out-Literal, roll-out-Literal, rolls-Null, rolls-Bool, rolls-Int, rolls-Text, rolls-List, rolls-Dict}
use Rattle.cv_syntax.specs.declared.tree.Literal.TheVariants as literals
use Rattle.cv_syntax.specs.Small.{constant_in, scalar_in, scalar_at}
use Rattle.cv_syntax.specs.Nested.{opens, pair_with, nest_with, literal_at}
use Rattle.cv_syntax.specs.Spelling.{truth, entry_slots, literal_slots}

-- ---- words, one level down

same_all : {X Y : Type 0} (f : X → Y) (spell : X → List Slot) (spelled : Y → List Slot) → ((x : X) → spelled (f x) ≡ spell x) → (xs : List X) → all_slots spelled (map f xs) ≡ all_slots spell xs
same_all f spell spelled same [] = refl
same_all f spell spelled same (x ∷ xs) = ap₂ (λ a b. a ++ b) (same x) (same_all f spell spelled same xs)

pub same_sep : {X Y : Type 0} (m : Mark) (f : X → Y) (spell : X → List Slot) (spelled : Y → List Slot) → ((x : X) → spelled (f x) ≡ spell x) → (xs : List X) → sep_slots m spelled (map f xs) ≡ sep_slots m spell xs
same_sep m f spell spelled same [] = refl
same_sep m f spell spelled same (x ∷ xs) =
    ap₂ (λ a b. a ++ b) (same x) (same_all f (λ y. mark m ∷ spell y) (λ y. mark m ∷ spelled y) (λ y. ap (λ ss. mark m ∷ ss) (same y)) xs)

unfoldable pub pair_slots : Pair Literal → List Slot
pair_slots p = just (words.Text p.key) ∷ mark marks.Colon ∷ literal_slots p.value

pub slots-Null : literal_slots literals.Null ≡ just (words.Reserved reserved.Null) ∷ []
slots-Null = search (rules, the_lemmas)

pub slots-Bool : (b : Bool) → literal_slots (literals.Bool b) ≡ just (words.Reserved (truth b)) ∷ []
slots-Bool b = search (rules, the_lemmas)

pub slots-Int : (n : _) → literal_slots (literals.Int n) ≡ just (words.Int n) ∷ []
slots-Int n = search (rules, the_lemmas)

pub slots-Text : (text : List ℕ) → literal_slots (literals.Text text) ≡ just (words.Text text) ∷ []
slots-Text text = search (rules, the_lemmas)

folded-List : (xs : List Literal) → literal_slots (literals.List xs) ≡ inside_slots marks.OpenBracket (listed_slots marks.CloseBracket (λ x. x)) (map literal_slots xs)
folded-List xs = search (rules, the_lemmas)

pub slots-List : (xs : List Literal) → literal_slots (literals.List xs) ≡ inside_slots marks.OpenBracket (listed_slots marks.CloseBracket literal_slots) xs
slots-List xs =
    folded-List xs ∙ ap (λ ss. opening marks.OpenBracket ∷ raise (ss ++ mark marks.CloseBracket ∷ [])) (same_sep marks.Comma literal_slots literal_slots (λ x. x) (λ x. refl) xs)

abbrev on_value : Pair Literal → Pair (List Slot)
on_value p = record { key = p.key; value = literal_slots p.value }

folded-Dict : (ps : List (Pair Literal)) → literal_slots (literals.Dict ps) ≡ inside_slots marks.OpenBrace (listed_slots marks.CloseBrace entry_slots) (map on_value ps)
folded-Dict ps = search (rules, the_lemmas)

pub slots-Dict : (ps : List (Pair Literal)) → literal_slots (literals.Dict ps) ≡ inside_slots marks.OpenBrace (listed_slots marks.CloseBrace pair_slots) ps
unfolding pair_slots
slots-Dict ps =
    folded-Dict ps ∙ ap (λ ss. opening marks.OpenBrace ∷ raise (ss ++ mark marks.CloseBrace ∷ [])) (same_sep marks.Comma on_value pair_slots entry_slots (λ x. refl) ps)

-- ---- literals of one word

pub data Scalar : Type 0 where
  null : Scalar
  truth_of : Bool → Scalar
  number : ℤ → Scalar
  text : List ℕ → Scalar

abbrev form : Scalar → Literal
form null = literals.Null
form (truth_of b) = literals.Bool b
form (number n) = literals.Int n
form (text t) = literals.Text t

abbrev slot : Scalar → Slot
slot null = just (words.Reserved reserved.Null)
slot (truth_of b) = just (words.Reserved (truth b))
slot (number n) = just (words.Int n)
slot (text t) = just (words.Text t)

abbrev constant : Reserved → Option Scalar
constant reserved.Null = Some null
constant reserved.True = Some (truth_of true)
constant reserved.False = Some (truth_of false)
constant _ = None

abbrev what : Word → Option Scalar
what (words.Reserved r) = constant r
what (words.Int n) = Some (number n)
what (words.Text t) = Some (text t)
what _ = None

constant_good : (r : Reserved) (x : Scalar) → constant r ≡ Some x → (slot x).word ≡ words.Reserved r
constant_good reserved.Null x e = let same : null ≡ x = cc in ap (λ z. (slot z).word) (sym same)
constant_good reserved.True x e = let same : truth_of true ≡ x = cc in ap (λ z. (slot z).word) (sym same)
constant_good reserved.False x e = let same : truth_of false ≡ x = cc in ap (λ z. (slot z).word) (sym same)
constant_good _ x e = cc

good : (w : Word) (x : Scalar) → what w ≡ Some x → (slot x).word ≡ w
good (words.Reserved r) x e = constant_good r x e
good (words.Int n) x e = let same : number n ≡ x = cc in ap (λ z. (slot z).word) (sym same)
good (words.Text t) x e = let same : text t ≡ x = cc in ap (λ z. (slot z).word) (sym same)
good _ x e = cc

no_place : (x : Scalar) → (slot x).at ≡ None
no_place null = refl
no_place (truth_of b) = refl
no_place (number n) = refl
no_place (text t) = refl

flat : (n : ℕ) (x : Scalar) → (slot x).level ≤ n
flat n null = omega arith
flat n (truth_of b) = omega arith
flat n (number m) = omega arith
flat n (text t) = omega arith

back_truth : (b : Bool) → what (words.Reserved (truth b)) ≡ Some (truth_of b)
back_truth true = refl
back_truth false = refl

back : (x : Scalar) → what (slot x).word ≡ Some x
back null = refl
back (truth_of b) = back_truth b
back (number n) = refl
back (text t) = refl

any_place : (o : Option ℕ) (at : ℕ) → o ≡ None → IfSome o (λ p. p ≡ at)
any_place None at e = tt
any_place (Some p) at e = cc

form_slots : (x : Scalar) → literal_slots (form x) ≡ slot x ∷ []
form_slots null = slots-Null
form_slots (truth_of b) = slots-Bool b
form_slots (number n) = slots-Int n
form_slots (text t) = slots-Text t

constant_same : (r : Reserved) (w : Placed) (ws : List Placed) → found_word (constant_in r) w ws ≡ mapped form (found_word (constant r) w ws)
constant_same reserved.Null w ws = refl
constant_same reserved.True w ws = refl
constant_same reserved.False w ws = refl
constant_same _ w ws = refl

word_same : (v : Word) (w : Placed) (ws : List Placed) → found_word (scalar_in v) w ws ≡ mapped form (found_word (what v) w ws)
word_same (words.Reserved r) w ws = constant_same r w ws
word_same (words.Int n) w ws = refl
word_same (words.Text t) w ws = refl
word_same _ w ws = refl

scalar_same : (ws : List Placed) → scalar_at ws ≡ mapped form (word_at (λ w. what w.word) ws)
scalar_same [] = refl
scalar_same (w ∷ ws) = word_same w.word w ws

abbrev Any : {X : Type 0} → X → Type 0
Any x = Unit {0}

abbrev still : {X : Type 0} → X → Word → Bool
still x = never

IsScalar : Literal → Type 0
IsScalar = Image form Any

scalar_reads : (n : ℕ) → Reads n scalar_at literal_slots (Image form Any) never still
scalar_reads n =
    rewhole n (λ ws. mapped form (word_at (λ w. what w.word) ws)) scalar_at literal_slots (Image form Any) (Image form Any) never still scalar_same (λ x f. f) (λ x f. f)
    (map_reads n (word_at (λ w. what w.word)) form (λ x. slot x ∷ []) literal_slots Any never still still form_slots (λ x. refl)
    (word_reads n (λ w. what w.word) slot (flat n) (λ w x e. (good w.word x e, any_place (slot x).at w.at (no_place x))) (λ w x f. ap what (sym f.0) ∙ back x) null))

-- ---- what a literal is

abbrev IsNest : Literal → Type 0
IsNest = Either (Image literals.List Any) (Image literals.Dict Any)

shape_of : (l : Literal-F Literal) → Either IsNest (Image form Any) (roll-Literal l)
shape_of Literal-F.Null = inr (record { from = null; fine = tt; same = sym rolls-Null })
shape_of (Literal-F.Bool b) = inr (record { from = truth_of b; fine = tt; same = sym (rolls-Bool b) })
shape_of (Literal-F.Int n) = inr (record { from = number n; fine = tt; same = sym (rolls-Int n) })
shape_of (Literal-F.Text t) = inr (record { from = text t; fine = tt; same = sym (rolls-Text t) })
shape_of (Literal-F.List xs) = inl (inl (record { from = xs; fine = tt; same = sym (rolls-List xs) }))
shape_of (Literal-F.Dict ps) = inl (inr (record { from = ps; fine = tt; same = sym (rolls-Dict ps) }))

shape : (x : Literal) → Either IsNest (Image form Any) x
shape x = subst (Either IsNest (Image form Any)) (roll-out-Literal x) (shape_of (out-Literal x))

-- ---- first words

leads : (p : Word → Bool) (b : Bool) (x y : Literal) (ss : List Slot) → x ≡ y → literal_slots x ≡ ss → BeginsWith p b ss → BeginsWith p b (literal_slots y)
leads p b x y ss e f l = subst (BeginsWith p b) (sym f ∙ ap literal_slots e) l

scalar_leads : (p : Word → Bool) (b : Bool) → p (words.Reserved reserved.Null) ≡ b → p (words.Reserved reserved.True) ≡ b → p (words.Reserved reserved.False) ≡ b → ((n : ℤ) → p (words.Int n) ≡ b) → ((t : List ℕ) → p (words.Text t) ≡ b) → (s : Scalar) → BeginsWith p b (slot s ∷ [])
scalar_leads p b a c d i t null = a
scalar_leads p b a c d i t (truth_of true) = c
scalar_leads p b a c d i t (truth_of false) = d
scalar_leads p b a c d i t (number n) = i n
scalar_leads p b a c d i t (text s) = t s

nest_leads : (p : Word → Bool) (b : Bool) → p (words.Mark marks.OpenBracket) ≡ b → p (words.Mark marks.OpenBrace) ≡ b → (x : Literal) → IsNest x → BeginsWith p b (literal_slots x)
nest_leads p b l m x (inl f) = leads p b (literals.List f.from) x _ f.same (slots-List f.from) l
nest_leads p b l m x (inr f) = leads p b (literals.Dict f.from) x _ f.same (slots-Dict f.from) m

leads_by : (p : Word → Bool) (b : Bool) → p (words.Reserved reserved.Null) ≡ b → p (words.Reserved reserved.True) ≡ b → p (words.Reserved reserved.False) ≡ b → ((n : ℤ) → p (words.Int n) ≡ b) → ((t : List ℕ) → p (words.Text t) ≡ b) → p (words.Mark marks.OpenBracket) ≡ b → p (words.Mark marks.OpenBrace) ≡ b → (x : Literal) → Either IsNest (Image form Any) x → BeginsWith p b (literal_slots x)
leads_by p b a c d i t l m x (inl f) = nest_leads p b l m x f
leads_by p b a c d i t l m x (inr f) = leads p b (form f.from) x _ f.same (form_slots f.from) (scalar_leads p b a c d i t f.from)

-- a test that only marks may pass, and no bracket that opens: no literal begins so
pub literal_leads : (p : Word → Bool) (b : Bool) → p (words.Reserved reserved.Null) ≡ b → p (words.Reserved reserved.True) ≡ b → p (words.Reserved reserved.False) ≡ b → ((n : ℤ) → p (words.Int n) ≡ b) → ((t : List ℕ) → p (words.Text t) ≡ b) → p (words.Mark marks.OpenBracket) ≡ b → p (words.Mark marks.OpenBrace) ≡ b → (x : Literal) → BeginsWith p b (literal_slots x)
literal_leads p b a c d i t l m x = leads_by p b a c d i t l m x (shape x)

-- ---- lists and dictionaries

pub pair_reads : (n : ℕ) (literal : Reader Literal) → Reads n literal literal_slots Any never still → Reads n (pair_with literal) pair_slots Any never still
unfolding pair_with pair_slots
pair_reads n literal reads =
    rewhole n (chain text_at (λ key ws. mapped (λ value. record { key = key; value = value }) (after marks.Colon literal ws))) (pair_with literal) pair_slots _ Any never still (λ ws. refl) (λ p f. tt) (λ p f. (tt, tt, tt))
    (parts_reads n text_at (after marks.Colon literal) (λ key value. record { key = key; value = value }) (λ p. p.key) (λ p. p.value) Any (λ x. just (words.Text x) ∷ []) (λ x. mark marks.Colon ∷ literal_slots x) Any Any still still
    (record { ones = λ x y. refl; twos = λ x y. refl; made = λ x y. tt; back = λ z f. refl }) literals.Null tt (quiet (λ x. mark marks.Colon ∷ literal_slots x) Any Any)
    (text_reads n) (after_reads n marks.Colon literal literal_slots Any still literals.Null tt reads))

all_any : {X : Type 0} (xs : List X) → AllByRecursion Any xs
all_any [] = tt
all_any (x ∷ xs) = (tt, all_any xs)

nest_to : (x : Literal) → Either (Image literals.List (AllByRecursion Any)) (Image literals.Dict (AllByRecursion Any)) x → IsNest x
nest_to x (inl f) = inl (record { from = f.from; fine = tt; same = f.same })
nest_to x (inr f) = inr (record { from = f.from; fine = tt; same = f.same })

nest_from : (x : Literal) → IsNest x → Either (Image literals.List (AllByRecursion Any)) (Image literals.Dict (AllByRecursion Any)) x
nest_from x (inl f) = inl (record { from = f.from; fine = all_any f.from; same = f.same })
nest_from x (inr f) = inr (record { from = f.from; fine = all_any f.from; same = f.same })

nest_reads : (k : ℕ) (literal : Reader Literal) → Reads k literal literal_slots Any never still → Reads (suc k) (nest_with literal) literal_slots IsNest never still
unfolding pair_slots
nest_reads k literal reads =
    let list = opened_reads k marks.OpenBracket (listed marks.CloseBracket literal) (listed_slots marks.CloseBracket literal_slots) (AllByRecursion Any) still [] tt
    (listed_reads k marks.CloseBracket literal literal_slots Any literals.Null tt refl (λ x f. literal_leads (is_mark marks.CloseBracket) false refl refl refl (λ n. refl) (λ t. refl) refl refl x) reads) in
    let dict = opened_reads k marks.OpenBrace (listed marks.CloseBrace (pair_with literal)) (listed_slots marks.CloseBrace pair_slots) (AllByRecursion Any) still [] tt
    (listed_reads k marks.CloseBrace (pair_with literal) pair_slots Any (record { key = []; value = literals.Null }) tt refl (λ x f. refl) (pair_reads k literal reads)) in
    let A : Reader Literal = λ ws. mapped literals.List (after marks.OpenBracket (listed marks.CloseBracket literal) ws) in
    let B : Reader Literal = λ ws. mapped literals.Dict (after marks.OpenBrace (listed marks.CloseBrace (pair_with literal)) ws) in
    rewhole (suc k) (pick (is_mark marks.OpenBracket) A B) (nest_with literal) literal_slots (Either (Image literals.List (AllByRecursion Any)) (Image literals.Dict (AllByRecursion Any))) IsNest never still
    (λ ws. same_pick (is_mark marks.OpenBracket) (λ ts. mapped literals.List (listed marks.CloseBracket literal (behind ts))) A B (λ ts e. ap (mapped literals.List) (sym (after_mark marks.OpenBracket (listed marks.CloseBracket literal) ts e))) ws) nest_to nest_from
    (pick_reads (suc k) (is_mark marks.OpenBracket) A B literal_slots (Image literals.List (AllByRecursion Any)) (Image literals.Dict (AllByRecursion Any)) still
    (map_reads (suc k) (after marks.OpenBracket (listed marks.CloseBracket literal)) literals.List _ literal_slots (AllByRecursion Any) never still still slots-List (λ x. refl) list)
    (map_reads (suc k) (after marks.OpenBrace (listed marks.CloseBrace (pair_with literal))) literals.Dict _ literal_slots (AllByRecursion Any) never still still slots-Dict (λ x. refl) dict)
    (λ x f. leads (is_mark marks.OpenBracket) true (literals.List f.from) x _ f.same (slots-List f.from) refl)
    (λ x f. leads (is_mark marks.OpenBracket) false (literals.Dict f.from) x _ f.same (slots-Dict f.from) refl))

-- ---- literals

scalar_not_open : (x : Literal) → Image form Any x → BeginsWith opens false (literal_slots x)
scalar_not_open x f = leads opens false (form f.from) x _ f.same (form_slots f.from) (scalar_leads opens false refl refl refl (λ n. refl) (λ t. refl) f.from)

nest_opens : (x : Literal) → IsNest x → Opens (literal_slots x)
nest_opens x (inl f) = subst Opens (sym (slots-List f.from) ∙ ap literal_slots f.same) refl
nest_opens x (inr f) = subst Opens (sym (slots-Dict f.from) ∙ ap literal_slots f.same) refl

or_cases : (a b : Bool) → (a || b) ≡ true → (a ≡ true) ⊎ (b ≡ true)
or_cases true b e = inl refl
or_cases false b e = inr e

begun_by : (w : Placed) → (is_mark marks.OpenBracket w.word ≡ true) ⊎ (is_mark marks.OpenBrace w.word ≡ true) → Begun literal_slots IsNest w
begun_by w (inl e) = record { tree = literals.List []; s = opening marks.OpenBracket; more = _; split = slots-List []; here = (mark_is marks.OpenBracket w.word e, tt); level = refl; fine = inl (record { from = []; fine = tt; same = refl }) }
begun_by w (inr e) = record { tree = literals.Dict []; s = opening marks.OpenBrace; more = _; split = slots-Dict []; here = (mark_is marks.OpenBrace w.word e, tt); level = refl; fine = inr (record { from = []; fine = tt; same = refl }) }

pub literal_reads : (n : ℕ) → Reads n (literal_at n) literal_slots Any never still
unfolding literal_at
literal_reads zero =
    rewhole 0 (pick opens too_deep scalar_at) (literal_at 0) literal_slots (Either IsNest (Image form Any)) Any never still (λ ws. refl) (λ x f. tt) (λ x f. shape x)
    (deep_reads opens scalar_at literal_slots IsNest (Image form Any) still (scalar_reads 0) nest_opens (λ x f. nest_leads opens true refl refl x f) scalar_not_open (λ w e. begun_by w (or_cases (is_mark marks.OpenBracket w.word) (is_mark marks.OpenBrace w.word) e)))
literal_reads (suc k) =
    rewhole (suc k) (pick opens (nest_with (literal_at k)) scalar_at) (literal_at (suc k)) literal_slots (Either IsNest (Image form Any)) Any never still (λ ws. refl) (λ x f. tt) (λ x f. shape x)
    (pick_reads (suc k) opens (nest_with (literal_at k)) scalar_at literal_slots IsNest (Image form Any) still (nest_reads k (literal_at k) (literal_reads k)) (scalar_reads (suc k)) (λ x f. nest_leads opens true refl refl x f) scalar_not_open)

-- the place of a literal's first word is not kept
scalar_unplaced : (s : Scalar) → Unplaced (slot s ∷ [])
scalar_unplaced null = refl
scalar_unplaced (truth_of b) = refl
scalar_unplaced (number n) = refl
scalar_unplaced (text t) = refl

unplaced_by : (x : Literal) → Either IsNest (Image form Any) x → Unplaced (literal_slots x)
unplaced_by x (inl (inl f)) = subst Unplaced (sym (slots-List f.from) ∙ ap literal_slots f.same) refl
unplaced_by x (inl (inr f)) = subst Unplaced (sym (slots-Dict f.from) ∙ ap literal_slots f.same) refl
unplaced_by x (inr f) = subst Unplaced (sym (form_slots f.from) ∙ ap literal_slots f.same) (scalar_unplaced f.from)

pub literal_unplaced : (x : Literal) → Unplaced (literal_slots x)
literal_unplaced x = unplaced_by x (shape x)
