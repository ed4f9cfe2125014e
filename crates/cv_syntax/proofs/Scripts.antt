-- What stands at the root, and scripts: their readers keep their promises.
use Rattle.std.proofs.Common.{◌≡◌, ℕ, inl, inr, Bool, true, false, List, [], ◌∷◌, ◌++◌, Ok, Err, refl, ap, ◌∙◌, subst, append_assoc}
use Rattle.std.specs.List.{AllByRecursion}
use Rattle.cv_lex.specs.declared.word.Mark.TheVariants as marks
use Rattle.cv_lex.specs.declared.word.Reserved.{Reserved}
use Rattle.cv_lex.specs.declared.word.Reserved.TheVariants as reserved
use Rattle.cv_lex.specs.declared.word.Word.{Word}
use Rattle.cv_lex.specs.declared.word.Word.TheVariants as words
use Rattle.cv_lex.specs.declared.word.Placed.{Placed}
use Rattle.cv_readers.specs.declared.name.Name.{Name}
use Rattle.cv_readers.specs.Reading.{Read, Reader, ◌>>=◌, is_mark, is_reserved, name_at, reserved_at}
use Rattle.cv_readers.specs.Combining.{mapped, after, many, sep, listed}
use Rattle.cv_readers.specs.Slots.{Slot, just, placed, mark, all_slots, sep_slots, listed_slots, SomeAll}
use Rattle.cv_readers.proofs.Matching.{BeginsWith}
use Rattle.cv_readers.proofs.Promises.{never, Reads}
use Rattle.cv_readers.proofs.Chains.{chain}
use Rattle.cv_readers.proofs.Changes.{Image, map_reads, recast, rewhole, earlier}
use Rattle.cv_readers.proofs.Choices.{Either, pick, pick_reads}
use Rattle.cv_readers.proofs.Manies.{either, idle, Row, many_reads}
use Rattle.cv_readers.proofs.Marks.{name_reads, reserved_reads, reserved_word, reserved_word_reads, reserved_skip}
use Rattle.cv_readers.proofs.Listings.{after_reads, listed_reads, sep_reads, word_then, parts_reads, quiet}
use Rattle.cv_syntax.specs.declared.tree.Literal.{Literal}
use Rattle.cv_syntax.specs.declared.tree.Value.TheVariants as values
use Rattle.cv_syntax.specs.declared.tree.Factor.{Factor}
use Rattle.cv_syntax.specs.declared.tree.Statement.{Statement}
use Rattle.cv_syntax.specs.declared.tree.Statement.TheVariants as statements
use Rattle.cv_syntax.specs.declared.tree.Component.{Component}
use Rattle.cv_syntax.specs.declared.tree.Define.{Define}
use Rattle.cv_syntax.specs.declared.tree.NamedRule.{NamedRule}
use Rattle.cv_syntax.specs.declared.tree.Apply.{Apply}
use Rattle.cv_syntax.specs.declared.tree.Item.{Item}
use Rattle.cv_syntax.specs.declared.tree.Item.TheVariants as items
use Rattle.cv_syntax.specs.Nested.{terms_at}
use Rattle.cv_syntax.specs.Whole.{value_at, statement_at, body_at, component_at, define_at, rule_at, apply_at, item_at, items_at, is_anything}
use Rattle.cv_syntax.specs.Spelling.{name_slots, literal_slots, value_slots, terms_slots, statement_slots, component_slots, define_slots, rule_slots, apply_slots, item_slots, AnyName, WholeTerms, WholeStatement, WholeItem}
use Rattle.cv_syntax.proofs.Literals.{literal_leads}
use Rattle.cv_syntax.proofs.Pieces.{Any, still, pair_form, two_reads}
use Rattle.cv_syntax.proofs.Factors.{terms_reads, terms_cont, some_terms, some_whole}
use Rattle.cv_syntax.proofs.Sentences.{value_reads, statement_reads, statement_cont, statement_leads, body_reads, quiet_idle, comma}

-- ---- behind a reserved name

-- a reader behind a reserved name whose place is let go
behind_reserved : {X : Type 0} (n : ℕ) (r : Reserved) (R : Reader X) (spell : X → List Slot) (Whole : X → Type 0) (cont : X → Word → Bool) → (x : X) → Whole x → Reads n R spell Whole never cont → Reads n (λ ws. reserved_at r ws >>= λ d. R d.1) (λ x. just (words.Reserved r) ∷ spell x) Whole never cont
behind_reserved n r R spell Whole cont x f reads =
    rewhole n (chain (reserved_word r) (λ _. R)) (λ ws. reserved_at r ws >>= λ d. R d.1) (λ x. just (words.Reserved r) ∷ spell x) (λ y. Unit {0} × Whole y) Whole never cont (reserved_skip r R) (λ y p. p.1) (λ y p. (tt, p))
    (word_then n (reserved_word r) (λ _. R) (λ u. just (words.Reserved r) ∷ []) Any spell (λ _ y. Whole y) cont (λ y. tt) (reserved_word_reads n r) (λ u p. reads) (λ u y p. refl) (λ u p. (x, f)))

bind_same : {X Y : Type 0} (a : Read X) (f g : X × List Placed → Read Y) → ((p : X × List Placed) → f p ≡ g p) → (a >>= f) ≡ (a >>= g)
bind_same (Ok p) f g same = same p
bind_same (Err miss) f g same = refl

abbrev both : {X Y : Type 0} → X → Y → X × Y
both x y = (x, y)

-- a part that nothing goes on with, and what stands behind it
quiet_two : {X Y : Type 0} (n : ℕ) (A : Reader X) (B : Reader Y) (spellX : X → List Slot) (spellY : Y → List Slot) (WholeX : X → Type 0) (WholeY : Y → Type 0) (contY : Y → Word → Bool) → (eg : Y) → WholeY eg → Reads n A spellX WholeX never still → Reads n B spellY WholeY never contY → Reads n (chain A (λ x ws. mapped (both x) (B ws))) (λ (q : X × Y). spellX q.0 ++ spellY q.1) (λ (q : X × Y). WholeX q.0 × WholeY q.1) never (λ (q : X × Y). contY q.1)
quiet_two {X} {Y} n A B spellX spellY WholeX WholeY contY eg fine a b =
    let C : Reader (X × Y) = chain A (λ x ws. mapped (both x) (B ws)) in
    rewhole n C C (λ (q : X × Y). spellX q.0 ++ spellY q.1) (λ (q : X × Y). Unit {0} × WholeX q.0 × WholeY q.1) (λ (q : X × Y). WholeX q.0 × WholeY q.1) never (λ (q : X × Y). contY q.1) (λ ws. refl) (λ q f. (f.1, f.2)) (λ q f. (tt, f.0, f.1))
    (parts_reads n A B (λ x y. both x y) (λ (q : X × Y). q.0) (λ (q : X × Y). q.1) (λ (q : X × Y). Unit {0}) spellX spellY WholeX WholeY still contY (record { ones = λ x y. refl; twos = λ x y. refl; made = λ x y. tt; back = λ q f. refl }) eg fine (quiet spellY WholeX WholeY) a b)

-- ---- constants

define_reads : (n : ℕ) → Reads n (define_at n) define_slots Any never still
unfolding define_at
define_reads n =
    let R : Reader Define = λ ws. name_at ws >>= λ name. mapped (λ value. record { name = name.0; value = value }) (after marks.Equals (value_at n) name.1) in
    let spell : Define → List Slot = λ d. name_slots d.name ++ mark marks.Equals ∷ value_slots d.value in
    behind_reserved n reserved.Define R spell Any still (record { name = record { text = []; at = 0 }; value = values.Fraction [] }) tt
    (rewhole n (chain name_at (λ name ws. mapped (λ value. record { name = name; value = value }) (after marks.Equals (value_at n) ws))) R spell _ Any never still (λ ws. refl) (λ p f. tt) (λ p f. (tt, tt, tt))
    (parts_reads n name_at (after marks.Equals (value_at n)) (λ name value. record { name = name; value = value }) (λ a. a.name) (λ a. a.value) Any name_slots (λ v. mark marks.Equals ∷ value_slots v) Any Any still still
    (record { ones = λ x y. refl; twos = λ x y. refl; made = λ x y. tt; back = λ z f. refl }) (values.Fraction []) tt (quiet (λ v. mark marks.Equals ∷ value_slots v) Any Any)
    (name_reads n) (after_reads n marks.Equals (value_at n) value_slots Any still (values.Fraction []) tt (value_reads n))))

-- ---- rules and what they are applied to

abbrev colon_terms : ℕ → Reader (List (List Factor))
colon_terms n = after marks.Colon (terms_at n)

abbrev colon_slots : List (List Factor) → List Slot
colon_slots ts = mark marks.Colon ∷ terms_slots ts

colon_reads : (n : ℕ) → Reads n (colon_terms n) colon_slots WholeTerms never (λ _. terms_cont)
colon_reads n = after_reads n marks.Colon (terms_at n) terms_slots WholeTerms (λ _. terms_cont) some_terms some_whole (terms_reads n)

abbrev rule_of : ℕ × (Name × List (List Factor)) → NamedRule
rule_of q = record { at = q.0; name = q.1.0; terms = q.1.1 }

rule_reads : (n : ℕ) → Reads n (rule_at n) rule_slots (λ r. WholeTerms r.terms) never (λ _. terms_cont)
unfolding rule_at
rule_reads n =
    let P : Reader (Name × List (List Factor)) = chain name_at (λ x ws. mapped (both x) (colon_terms n ws)) in
    let Q : Reader (ℕ × (Name × List (List Factor))) = chain (reserved_at reserved.Rule) (λ x ws. mapped (both x) (P ws)) in
    let place : ℕ → List Slot = λ at. placed (words.Reserved reserved.Rule) at ∷ [] in
    let inner : Name × List (List Factor) → List Slot = λ q. name_slots q.0 ++ colon_slots q.1 in
    let Fine : ℕ × (Name × List (List Factor)) → Type 0 = λ q. Unit {0} × (Unit {0} × WholeTerms q.1.1) in
    rewhole n (λ ws. mapped rule_of (Q ws)) (rule_at n) rule_slots (Image rule_of Fine) (λ r. WholeTerms r.terms) never (λ _. terms_cont)
    (λ ws. bind_same (reserved_at reserved.Rule ws) _ _ (λ r. pair_form name_at (colon_terms n) (λ name terms. record { at = r.0; name = name; terms = terms }) r.1) ∙ pair_form (reserved_at reserved.Rule) P (λ at q. record { at = at; name = q.0; terms = q.1 }) ws)
    (λ r f. subst (λ z. WholeTerms z.terms) f.same f.fine.1.1) (λ r f. record { from = (r.at, (r.name, r.terms)); fine = (tt, (tt, f)); same = refl })
    (map_reads n Q rule_of (λ q. place q.0 ++ inner q.1) rule_slots Fine never (λ _. terms_cont) (λ _. terms_cont) (λ q. refl) (λ q. refl)
    (quiet_two n (reserved_at reserved.Rule) P place inner Any (λ q. Unit {0} × WholeTerms q.1) (λ _. terms_cont) (record { text = []; at = 0 }, some_terms) (tt, some_whole) (reserved_reads n reserved.Rule)
    (quiet_two n name_at (colon_terms n) name_slots colon_slots Any WholeTerms (λ _. terms_cont) some_terms some_whole (name_reads n) (colon_reads n))))

abbrev apply_of : ℕ × (List Name × List (List Factor)) → Apply
apply_of q = record { at = q.0; names = q.1.0; terms = q.1.1 }

abbrev no_name : Name
no_name = record { text = []; at = 0 }

apply_reads : (n : ℕ) → Reads n (apply_at n) apply_slots (λ a. SomeAll AnyName a.names × WholeTerms a.terms) never (λ _. terms_cont)
unfolding apply_at
apply_reads n =
    let N : Reader (List Name) = sep marks.Comma name_at in
    let P : Reader (List Name × List (List Factor)) = chain N (λ x ws. mapped (both x) (colon_terms n ws)) in
    let Q : Reader (ℕ × (List Name × List (List Factor))) = chain (reserved_at reserved.Apply) (λ x ws. mapped (both x) (P ws)) in
    let place : ℕ → List Slot = λ at. placed (words.Reserved reserved.Apply) at ∷ [] in
    let inner : List Name × List (List Factor) → List Slot = λ q. sep_slots marks.Comma name_slots q.0 ++ colon_slots q.1 in
    let Fine : ℕ × (List Name × List (List Factor)) → Type 0 = λ q. Unit {0} × (SomeAll AnyName q.1.0 × WholeTerms q.1.1) in
    rewhole n (λ ws. mapped apply_of (Q ws)) (apply_at n) apply_slots (Image apply_of Fine) (λ a. SomeAll AnyName a.names × WholeTerms a.terms) never (λ _. terms_cont)
    (λ ws. bind_same (reserved_at reserved.Apply ws) _ _ (λ a. pair_form N (colon_terms n) (λ names terms. record { at = a.0; names = names; terms = terms }) a.1) ∙ pair_form (reserved_at reserved.Apply) P (λ at q. record { at = at; names = q.0; terms = q.1 }) ws)
    (λ a f. subst (λ z. SomeAll AnyName z.names × WholeTerms z.terms) f.same f.fine.1) (λ a f. record { from = (a.at, (a.names, a.terms)); fine = (tt, f); same = refl })
    (map_reads n Q apply_of (λ q. place q.0 ++ inner q.1) apply_slots Fine never (λ _. terms_cont) (λ _. terms_cont) (λ q. refl) (λ q. refl)
    (quiet_two n (reserved_at reserved.Apply) P place inner Any (λ q. SomeAll AnyName q.0 × WholeTerms q.1) (λ _. terms_cont) (no_name ∷ [], some_terms) ((tt, tt), some_whole) (reserved_reads n reserved.Apply)
    (two_reads n N (colon_terms n) (sep_slots marks.Comma name_slots) colon_slots (SomeAll AnyName) WholeTerms (λ _. comma) (λ _. terms_cont) some_terms some_whole (λ x y f g. refl)
    (sep_reads n marks.Comma name_at name_slots AnyName never no_name tt refl (name_reads n)) (colon_reads n))))

-- ---- components

abbrev Body : Type 0
Body = List Statement

abbrev Rest : Type 0
Rest = Name × (List Name × (List Name × (List Name × Body)))

abbrev component_of : Rest → Component
component_of q = record { name = q.0; args = q.1.0; inports = q.1.1.0; outports = q.1.1.1.0; body = q.1.1.1.1 }

abbrev body_slots : Body → List Slot
body_slots ss = all_slots statement_slots ss ++ mark marks.CloseBrace ∷ []

names_reads : (n : ℕ) (close : _) → is_mark marks.Comma (words.Mark close) ≡ false → Reads n (listed close name_at) (listed_slots close name_slots) (AllByRecursion Any) never still
names_reads n close c = listed_reads n close name_at name_slots Any no_name tt c (λ x f. refl) (name_reads n)

all_any : {X : Type 0} (xs : List X) → AllByRecursion Any xs
all_any [] = tt
all_any (x ∷ xs) = (tt, all_any xs)

-- the words of a component, in groups from the right
component_words : (c : Component) → just (words.Reserved reserved.Component) ∷ (name_slots c.name ++ ((mark marks.OpenParen ∷ listed_slots marks.CloseParen name_slots c.args) ++ (listed_slots marks.Arrow name_slots c.inports ++ (listed_slots marks.OpenBrace name_slots c.outports ++ body_slots c.body)))) ≡ component_slots c
component_words c = ap (λ ss. just (words.Reserved reserved.Component) ∷ ss) (simp append_assoc)

component_reads : (n : ℕ) → Reads n (component_at n) component_slots (λ c. AllByRecursion WholeStatement c.body) never still
unfolding component_at
component_reads n =
    let A : Reader (List Name) = after marks.OpenParen (listed marks.CloseParen name_at) in
    let I : Reader (List Name) = listed marks.Arrow name_at in
    let O : Reader (List Name) = listed marks.OpenBrace name_at in
    let P1 : Reader (List Name × Body) = chain O (λ x ws. mapped (both x) (body_at n ws)) in
    let P2 : Reader (List Name × (List Name × Body)) = chain I (λ x ws. mapped (both x) (P1 ws)) in
    let P3 : Reader (List Name × (List Name × (List Name × Body))) = chain A (λ x ws. mapped (both x) (P2 ws)) in
    let P4 : Reader Rest = chain name_at (λ x ws. mapped (both x) (P3 ws)) in
    let R : Reader Component = λ ws. name_at ws
    >>= λ name. A name.1
    >>= λ args. I args.1
    >>= λ ins. O ins.1
    >>= λ outs. mapped (λ body. record { name = name.0; args = args.0; inports = ins.0; outports = outs.0; body = body }) (body_at n outs.1) in
    let s1 : List Name × Body → List Slot = λ q. listed_slots marks.OpenBrace name_slots q.0 ++ body_slots q.1 in
    let s2 : List Name × (List Name × Body) → List Slot = λ q. listed_slots marks.Arrow name_slots q.0 ++ s1 q.1 in
    let s3 : List Name × (List Name × (List Name × Body)) → List Slot = λ q. (mark marks.OpenParen ∷ listed_slots marks.CloseParen name_slots q.0) ++ s2 q.1 in
    let s4 : Rest → List Slot = λ q. name_slots q.0 ++ s3 q.1 in
    let w1 : List Name × Body → Type 0 = λ q. AllByRecursion Any q.0 × AllByRecursion WholeStatement q.1 in
    let w2 : List Name × (List Name × Body) → Type 0 = λ q. AllByRecursion Any q.0 × w1 q.1 in
    let w3 : List Name × (List Name × (List Name × Body)) → Type 0 = λ q. AllByRecursion Any q.0 × w2 q.1 in
    let w4 : Rest → Type 0 = λ q. Unit {0} × w3 q.1 in
    let r1 = quiet_two n O (body_at n) (listed_slots marks.OpenBrace name_slots) body_slots (AllByRecursion Any) (AllByRecursion WholeStatement) still [] tt (names_reads n marks.OpenBrace refl) (body_reads n) in
    let r2 = quiet_two n I P1 (listed_slots marks.Arrow name_slots) s1 (AllByRecursion Any) w1 still ([], []) (tt, tt) (names_reads n marks.Arrow refl) r1 in
    let r3 = quiet_two n A P2 (λ xs. mark marks.OpenParen ∷ listed_slots marks.CloseParen name_slots xs) s2 (AllByRecursion Any) w2 still ([], ([], [])) (tt, (tt, tt))
    (after_reads n marks.OpenParen (listed marks.CloseParen name_at) (listed_slots marks.CloseParen name_slots) (AllByRecursion Any) still [] tt (names_reads n marks.CloseParen refl)) r2 in
    let r4 = quiet_two n name_at P3 name_slots s3 Any w3 still ([], ([], ([], []))) (tt, (tt, (tt, tt))) (name_reads n) r3 in
    let spell : Component → List Slot = λ c. s4 (c.name, (c.args, (c.inports, (c.outports, c.body)))) in
    let same : (ws : List Placed) → R ws ≡ mapped component_of (P4 ws) = λ ws.
    bind_same (name_at ws) _ _ (λ name.
    bind_same (A name.1) _ _ (λ args.
    bind_same (I args.1) _ _ (λ ins. pair_form O (body_at n) (λ outs body. record { name = name.0; args = args.0; inports = ins.0; outports = outs; body = body }) ins.1)
    ∙ pair_form I P1 (λ ins q. record { name = name.0; args = args.0; inports = ins; outports = q.0; body = q.1 }) args.1)
    ∙ pair_form A P2 (λ args q. record { name = name.0; args = args; inports = q.0; outports = q.1.0; body = q.1.1 }) name.1)
    ∙ pair_form name_at P3 (λ name q. record { name = name; args = q.0; inports = q.1.0; outports = q.1.1.0; body = q.1.1.1 }) ws in
    recast n (λ ws. reserved_at reserved.Component ws >>= λ c. R c.1) (component_at n) (λ c. just (words.Reserved reserved.Component) ∷ spell c) component_slots (λ c. AllByRecursion WholeStatement c.body) (λ c. AllByRecursion WholeStatement c.body) never still still (λ ws. refl) (λ c f. component_words c) (λ c f. refl) (λ c f. f) (λ c f. f)
    (behind_reserved n reserved.Component R spell (λ c. AllByRecursion WholeStatement c.body) still (component_of (no_name, ([], ([], ([], []))))) tt
    (rewhole n (λ ws. mapped component_of (P4 ws)) R spell (Image component_of w4) (λ c. AllByRecursion WholeStatement c.body) never still same
    (λ c f. subst (λ z. AllByRecursion WholeStatement z.body) f.same f.fine.1.1.1.1) (λ c f. record { from = (c.name, (c.args, (c.inports, (c.outports, c.body)))); fine = (tt, (all_any c.args, (all_any c.inports, (all_any c.outports, f)))); same = refl })
    (map_reads n P4 component_of s4 spell w4 never still still (λ q. refl) (λ q. refl) r4)))

-- ---- what stands at the root

abbrev item_cont : Item → Word → Bool
item_cont (items.Component c) = never
item_cont (items.Define d) = never
item_cont (items.Rule r) = terms_cont
item_cont (items.Apply a) = terms_cont
item_cont (items.Statement s) = statement_cont s

abbrev IsC : Item → Type 0
IsC = Image items.Component (λ c. AllByRecursion WholeStatement c.body)

abbrev IsD : Item → Type 0
IsD = Image items.Define Any

abbrev IsR : Item → Type 0
IsR = Image items.Rule (λ r. WholeTerms r.terms)

abbrev IsA : Item → Type 0
IsA = Image items.Apply (λ a. SomeAll AnyName a.names × WholeTerms a.terms)

abbrev IsS : Item → Type 0
IsS = Image items.Statement WholeStatement

abbrev IsItem : Item → Type 0
IsItem = Either IsC (Either IsD (Either IsR (Either IsA IsS)))

item_to : (x : Item) → IsItem x → WholeItem x
item_to x (inl f) = subst WholeItem f.same f.fine
item_to x (inr (inl f)) = subst WholeItem f.same f.fine
item_to x (inr (inr (inl f))) = subst WholeItem f.same f.fine
item_to x (inr (inr (inr (inl f)))) = subst WholeItem f.same f.fine
item_to x (inr (inr (inr (inr f)))) = subst WholeItem f.same f.fine

item_from : (x : Item) → WholeItem x → IsItem x
item_from (items.Component c) f = inl (record { from = c; fine = f; same = refl })
item_from (items.Define d) f = inr (inl (record { from = d; fine = tt; same = refl }))
item_from (items.Rule r) f = inr (inr (inl (record { from = r; fine = f; same = refl })))
item_from (items.Apply a) f = inr (inr (inr (inl (record { from = a; fine = f; same = refl }))))
item_from (items.Statement s) f = inr (inr (inr (inr (record { from = s; fine = f; same = refl }))))

item_same : (p : Word → Bool) (b : Bool) (x y : Item) → x ≡ y → BeginsWith p b (item_slots x) → BeginsWith p b (item_slots y)
item_same p b x y e l = subst (λ z. BeginsWith p b (item_slots z)) e l

reserved_not : (r : Reserved) → is_reserved r (words.Reserved reserved.Voidport) ≡ false → ((l : Literal) → BeginsWith (is_reserved r) false (literal_slots l)) → (x : Item) → IsS x → BeginsWith (is_reserved r) false (item_slots x)
reserved_not r void lit x f = item_same (is_reserved r) false (items.Statement f.from) x f.same (statement_leads (is_reserved r) false (λ t. refl) void refl lit f.from)

not_c : (x : Item) → Either IsD (Either IsR (Either IsA IsS)) x → BeginsWith (is_reserved reserved.Component) false (item_slots x)
not_c x (inl f) = item_same (is_reserved reserved.Component) false (items.Define f.from) x f.same refl
not_c x (inr (inl f)) = item_same (is_reserved reserved.Component) false (items.Rule f.from) x f.same refl
not_c x (inr (inr (inl f))) = item_same (is_reserved reserved.Component) false (items.Apply f.from) x f.same refl
not_c x (inr (inr (inr f))) = reserved_not reserved.Component refl (literal_leads (is_reserved reserved.Component) false refl refl refl (λ n. refl) (λ t. refl) refl refl) x f

not_d : (x : Item) → Either IsR (Either IsA IsS) x → BeginsWith (is_reserved reserved.Define) false (item_slots x)
not_d x (inl f) = item_same (is_reserved reserved.Define) false (items.Rule f.from) x f.same refl
not_d x (inr (inl f)) = item_same (is_reserved reserved.Define) false (items.Apply f.from) x f.same refl
not_d x (inr (inr f)) = reserved_not reserved.Define refl (literal_leads (is_reserved reserved.Define) false refl refl refl (λ n. refl) (λ t. refl) refl refl) x f

not_r : (x : Item) → Either IsA IsS x → BeginsWith (is_reserved reserved.Rule) false (item_slots x)
not_r x (inl f) = item_same (is_reserved reserved.Rule) false (items.Apply f.from) x f.same refl
not_r x (inr f) = reserved_not reserved.Rule refl (literal_leads (is_reserved reserved.Rule) false refl refl refl (λ n. refl) (λ t. refl) refl refl) x f

item_reads : (n : ℕ) → Reads n (item_at n) item_slots WholeItem never item_cont
unfolding item_at
item_reads n =
    let C : Reader Item = λ ws. mapped items.Component (component_at n ws) in
    let D : Reader Item = λ ws. mapped items.Define (define_at n ws) in
    let R : Reader Item = λ ws. mapped items.Rule (rule_at n ws) in
    let A : Reader Item = λ ws. mapped items.Apply (apply_at n ws) in
    let S : Reader Item = λ ws. mapped items.Statement (statement_at n ws) in
    let a = pick_reads n (is_reserved reserved.Apply) A S item_slots IsA IsS item_cont
    (map_reads n (apply_at n) items.Apply apply_slots item_slots (λ a. SomeAll AnyName a.names × WholeTerms a.terms) never (λ _. terms_cont) item_cont (λ x. refl) (λ x. refl) (apply_reads n))
    (map_reads n (statement_at n) items.Statement statement_slots item_slots WholeStatement never statement_cont item_cont (λ x. refl) (λ x. refl) (statement_reads n))
    (λ x f. item_same (is_reserved reserved.Apply) true (items.Apply f.from) x f.same refl)
    (reserved_not reserved.Apply refl (literal_leads (is_reserved reserved.Apply) false refl refl refl (λ n. refl) (λ t. refl) refl refl)) in
    let r = pick_reads n (is_reserved reserved.Rule) R (pick (is_reserved reserved.Apply) A S) item_slots IsR (Either IsA IsS) item_cont
    (map_reads n (rule_at n) items.Rule rule_slots item_slots (λ r. WholeTerms r.terms) never (λ _. terms_cont) item_cont (λ x. refl) (λ x. refl) (rule_reads n)) a
    (λ x f. item_same (is_reserved reserved.Rule) true (items.Rule f.from) x f.same refl) not_r in
    let d = pick_reads n (is_reserved reserved.Define) D (pick (is_reserved reserved.Rule) R (pick (is_reserved reserved.Apply) A S)) item_slots IsD (Either IsR (Either IsA IsS)) item_cont
    (map_reads n (define_at n) items.Define define_slots item_slots Any never still item_cont (λ x. refl) (λ x. refl) (define_reads n)) r
    (λ x f. item_same (is_reserved reserved.Define) true (items.Define f.from) x f.same refl) not_d in
    rewhole n (pick (is_reserved reserved.Component) C (pick (is_reserved reserved.Define) D (pick (is_reserved reserved.Rule) R (pick (is_reserved reserved.Apply) A S)))) (item_at n) item_slots IsItem WholeItem never item_cont (λ ws. refl) item_to item_from
    (pick_reads n (is_reserved reserved.Component) C (pick (is_reserved reserved.Define) D (pick (is_reserved reserved.Rule) R (pick (is_reserved reserved.Apply) A S))) item_slots IsC (Either IsD (Either IsR (Either IsA IsS))) item_cont
    (map_reads n (component_at n) items.Component component_slots item_slots (λ c. AllByRecursion WholeStatement c.body) never still item_cont (λ x. refl) (λ x. refl) (component_reads n)) d
    (λ x f. item_same (is_reserved reserved.Component) true (items.Component f.from) x f.same refl) not_c)

-- ---- scripts

-- a test that no first word of an item passes, or each does
item_leads : (p : Word → Bool) (b : Bool) → p (words.Reserved reserved.Component) ≡ b → p (words.Reserved reserved.Define) ≡ b → p (words.Reserved reserved.Rule) ≡ b → p (words.Reserved reserved.Apply) ≡ b → ((s : Statement) → BeginsWith p b (statement_slots s)) → (x : Item) → BeginsWith p b (item_slots x)
item_leads p b c d r a s (items.Component x) = c
item_leads p b c d r a s (items.Define x) = d
item_leads p b c d r a s (items.Rule x) = r
item_leads p b c d r a s (items.Apply x) = a
item_leads p b c d r a s (items.Statement x) = s x

begins_none : (x : Item) → BeginsWith never false (item_slots x)
begins_none = item_leads never false refl refl refl refl (statement_leads never false (λ t. refl) refl refl (literal_leads never false refl refl refl (λ n. refl) (λ t. refl) refl refl))

begins_no_comma : (x : Item) → BeginsWith comma false (item_slots x)
begins_no_comma = item_leads comma false refl refl refl refl (statement_leads comma false (λ t. refl) refl refl (literal_leads comma false refl refl refl (λ n. refl) (λ t. refl) refl refl))

begins_no_term : (x : Item) → BeginsWith terms_cont false (item_slots x)
begins_no_term = item_leads terms_cont false refl refl refl refl (statement_leads terms_cont false (λ t. refl) refl refl (literal_leads terms_cont false refl refl refl (λ n. refl) (λ t. refl) refl refl))

statement_stops : (s : Statement) (y : Item) → BeginsWith (statement_cont s) false (item_slots y)
statement_stops (statements.Declare d) y = begins_none y
statement_stops (statements.Join j) y = begins_no_comma y

item_follows : (x y : Item) → BeginsWith (item_cont x) false (item_slots y)
item_follows (items.Component c) y = begins_none y
item_follows (items.Define d) y = begins_none y
item_follows (items.Rule r) y = begins_no_term y
item_follows (items.Apply a) y = begins_no_term y
item_follows (items.Statement s) y = statement_stops s y

item_row : (n : ℕ) → Row n is_anything never (item_at n) item_slots WholeItem item_cont
item_row n = record {
  item = item_reads n;
  starts = λ x f. item_leads is_anything true refl refl refl refl (statement_leads is_anything true (λ t. refl) refl refl (literal_leads is_anything true refl refl refl (λ n. refl) (λ t. refl) refl refl)) x;
  follows = λ x y f g. item_follows x y;
  same = λ x w f e. cc;
}

pub items_reads : (n : ℕ) → Reads n (items_at n) (all_slots item_slots) (AllByRecursion WholeItem) never (λ _. either is_anything never)
unfolding items_at
items_reads n =
    earlier n (many is_anything (item_at n)) (all_slots item_slots) (AllByRecursion WholeItem) (idle is_anything never) never (λ _. either is_anything never) (quiet_idle is_anything)
    (many_reads n is_anything never (item_at n) item_slots WholeItem item_cont (item_row n))
