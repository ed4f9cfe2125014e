-- Names of kinds, targets and matches: their readers keep their promises.
use Rattle.std.proofs.Common.{◌≡◌, ℕ, inl, inr, Bool, true, false, cond, List, [], ◌∷◌, ◌++◌, Ok, Err, refl, ap, sym, ◌∙◌, subst, arith}
use Rattle.std.specs.List.{AllByRecursion}
use Rattle.std.proofs.lemmas.Slice.Eq.{bytes_eq-Decides}
use Rattle.cv_lex.specs.declared.word.Mark.TheVariants as marks
use Rattle.cv_lex.specs.declared.word.Reserved.TheVariants as reserved
use Rattle.cv_lex.specs.declared.word.Word.{Word}
use Rattle.cv_lex.specs.declared.word.Word.TheVariants as words
use Rattle.cv_lex.specs.declared.word.Placed.{Placed}
use Rattle.cv_readers.specs.Reading.{Read, Reader, ◌>>=◌, when, is_mark, is_reserved, bare_at, text_at, place_of, first_is, behind}
use Rattle.cv_readers.specs.Combining.{mapped, closed, after, listed}
use Rattle.cv_readers.specs.Slots.{Slot, just, mark, listed_slots}
use Rattle.cv_readers.proofs.Matching.{BeginsWith, leads_first}
use Rattle.cv_readers.proofs.Promises.{never, Reads, word_reads}
use Rattle.cv_readers.proofs.Chains.{chain}
use Rattle.cv_readers.proofs.Changes.{Image, map_reads, recast, rewhole}
use Rattle.cv_readers.proofs.Choices.{Either, pick, pick_reads}
use Rattle.cv_readers.proofs.Places.{maybe, maybe_reads, Unplaced, here, here_slots, here_reads}
use Rattle.cv_readers.proofs.Repeats.{after_mark}
use Rattle.cv_readers.proofs.Marks.{text_reads, bare_reads, reserved_word, reserved_word_reads, reserved_first, when_some}
use Rattle.cv_readers.proofs.Listings.{after_reads, closed_reads, listed_reads, same_pick, word_then, inside, inside_slots, inside_reads, parts_reads, quiet}
use Rattle.cv_syntax.specs.declared.tree.KindName.{KindName}
use Rattle.cv_syntax.specs.declared.tree.KindName.TheVariants as kinds
use Rattle.cv_syntax.specs.declared.tree.Target.{Target}
use Rattle.cv_syntax.specs.declared.tree.Target.TheVariants as targets
use Rattle.cv_syntax.specs.declared.tree.Aim.{Aim}
use Rattle.cv_syntax.specs.declared.tree.Match.{Match}
use Rattle.cv_syntax.specs.Small.{kind_after, kind_at, target_at, aim_at, is_name, exactly_at, match_name, index_name, field_at, fields_at, index_at, bracket_at, group_at, match_at}
use Rattle.cv_syntax.specs.Spelling.{bare_slots, kind_slots, target_slots, aim_slots, field_slots, index_slots, group_slots, match_slots}

abbrev pub Any : {X : Type 0} → X → Type 0
Any x = Unit {0}

abbrev pub still : {X : Type 0} → X → Word → Bool
still x = never

-- ---- what was read behind a first part, in another form

mapped_bind : {X Y Z : Type 0} (form : Y → Z) (a : Read X) (next : X × List Placed → Read Y) → mapped form (a >>= next) ≡ (a >>= λ p. mapped form (next p))
mapped_bind form (Ok p) next = refl
mapped_bind form (Err miss) next = refl

mapped_twice : {X Y Z : Type 0} (form : X → Y) (next : Y → Z) (a : Read X) → mapped next (mapped form a) ≡ mapped (λ x. next (form x)) a
mapped_twice form next (Ok p) = refl
mapped_twice form next (Err miss) = refl

abbrev both : {X Y : Type 0} → X → Y → X × Y
both x y = (x, y)

pair_by : {X Y Z : Type 0} (B : Reader Y) (form : X → Y → Z) (a : Read X) → (a >>= λ p. mapped (form p.0) (B p.1)) ≡ mapped (λ (q : X × Y). form q.0 q.1) (a >>= λ p. mapped (both p.0) (B p.1))
pair_by {X} {Y} {Z} B form (Ok p) = sym (mapped_twice (both p.0) (λ (q : X × Y). form q.0 q.1) (B p.1))
pair_by B form (Err miss) = refl

-- a pair of what is read and what is read behind it, in another form
pub pair_form : {X Y Z : Type 0} (A : Reader X) (B : Reader Y) (form : X → Y → Z) (ws : List Placed) → chain A (λ x ts. mapped (form x) (B ts)) ws ≡ mapped (λ (q : X × Y). form q.0 q.1) (chain A (λ x ts. mapped (both x) (B ts)) ws)
pair_form {X} {Y} {Z} A B form ws = pair_by B form (A ws)

-- two parts behind one another
pub two_reads : {X Y : Type 0} (n : ℕ) (A : Reader X) (B : Reader Y) (spellX : X → List Slot) (spellY : Y → List Slot) (WholeX : X → Type 0) (WholeY : Y → Type 0) (contX : X → Word → Bool) (contY : Y → Word → Bool) → (eg : Y) → WholeY eg → ((x : X) (y : Y) → WholeX x → WholeY y → BeginsWith (contX x) false (spellY y)) → Reads n A spellX WholeX never contX → Reads n B spellY WholeY never contY → Reads n (chain A (λ x ws. mapped (both x) (B ws))) (λ (q : X × Y). spellX q.0 ++ spellY q.1) (λ (q : X × Y). WholeX q.0 × WholeY q.1) never (λ (q : X × Y). contY q.1)
two_reads {X} {Y} n A B spellX spellY WholeX WholeY contX contY eg fine apart a b =
    let C : Reader (X × Y) = chain A (λ x ws. mapped (both x) (B ws)) in
    rewhole n C C (λ (q : X × Y). spellX q.0 ++ spellY q.1) (λ (q : X × Y). Unit {0} × WholeX q.0 × WholeY q.1) (λ (q : X × Y). WholeX q.0 × WholeY q.1) never (λ (q : X × Y). contY q.1) (λ ws. refl) (λ q f. (f.1, f.2)) (λ q f. (tt, f.0, f.1))
    (parts_reads n A B (λ x y. both x y) (λ (q : X × Y). q.0) (λ (q : X × Y). q.1) (λ (q : X × Y). Unit {0}) spellX spellY WholeX WholeY contX contY (record { ones = λ x y. refl; twos = λ x y. refl; made = λ x y. tt; back = λ q f. refl }) eg fine (λ x y front rest f g m. leads_first (contX x) false (spellY y) front rest (apart x y f g) m) a b)

-- ---- names of kinds

abbrev dotted : Reader (List ℕ × List ℕ)
dotted = chain bare_at (λ x ws. mapped (both x) (after marks.Dot bare_at ws))

abbrev first_name : KindName → List ℕ
first_name (kinds.Plain a) = a
first_name (kinds.Dotted a b) = a

abbrev kind_tail : KindName → List Slot
kind_tail (kinds.Plain a) = []
kind_tail (kinds.Dotted a b) = mark marks.Dot ∷ bare_slots b

-- a dot goes on with a name that has none
abbrev pub kind_cont : KindName → Word → Bool
kind_cont (kinds.Plain a) = is_mark marks.Dot
kind_cont (kinds.Dotted a b) = never

abbrev KindBehind : List ℕ → KindName → Type 0
KindBehind x = Either (Image (kinds.Dotted x) Any) (λ k. kinds.Plain x ≡ k)

kind_words : (k : KindName) → bare_slots (first_name k) ++ kind_tail k ≡ kind_slots k
kind_words (kinds.Plain a) = refl
kind_words (kinds.Dotted a b) = refl

kind_got : (x : List ℕ) (k : KindName) → KindBehind x k → first_name k ≡ x
kind_got x k (inl f) = ap first_name (sym f.same)
kind_got x k (inr f) = ap first_name (sym f)

kind_shape : (k : KindName) → KindBehind (first_name k) k
kind_shape (kinds.Plain a) = inr refl
kind_shape (kinds.Dotted a b) = inl (record { from = b; fine = tt; same = refl })

tail_reads : (n : ℕ) (x : List ℕ) → Reads n (maybe (is_mark marks.Dot) (λ ws. mapped (kinds.Dotted x) (after marks.Dot bare_at ws)) (kinds.Plain x)) kind_tail (KindBehind x) never kind_cont
tail_reads n x =
    maybe_reads n (is_mark marks.Dot) (λ ws. mapped (kinds.Dotted x) (after marks.Dot bare_at ws)) (kinds.Plain x) kind_tail (Image (kinds.Dotted x) Any) kind_cont refl refl
    (λ k f. subst (λ z. BeginsWith (is_mark marks.Dot) true (kind_tail z)) f.same refl)
    (map_reads n (after marks.Dot bare_at) (kinds.Dotted x) (λ b. mark marks.Dot ∷ bare_slots b) kind_tail Any never still kind_cont (λ b. refl) (λ b. refl) (after_reads n marks.Dot bare_at bare_slots Any still [] tt (bare_reads n)))

kind_same : (p : List ℕ × List Placed) → kind_after p ≡ maybe (is_mark marks.Dot) (λ ws. mapped (kinds.Dotted p.0) (after marks.Dot bare_at ws)) (kinds.Plain p.0) p.1
kind_same p = same_pick (is_mark marks.Dot) (λ ws. mapped (kinds.Dotted p.0) (bare_at (behind ws))) (λ ws. mapped (kinds.Dotted p.0) (after marks.Dot bare_at ws)) (λ ws. Ok (kinds.Plain p.0, ws)) (λ ws e. ap (mapped (kinds.Dotted p.0)) (sym (after_mark marks.Dot bare_at ws e))) p.1

kind_bind : (a : Read (List ℕ)) → (a >>= kind_after) ≡ (a >>= λ p. maybe (is_mark marks.Dot) (λ ws. mapped (kinds.Dotted p.0) (after marks.Dot bare_at ws)) (kinds.Plain p.0) p.1)
kind_bind (Ok p) = kind_same p
kind_bind (Err miss) = refl

pub kind_reads : (n : ℕ) → Reads n kind_at kind_slots Any never kind_cont
unfolding kind_at
kind_reads n =
    let B : List ℕ → Reader KindName = λ x ws. maybe (is_mark marks.Dot) (λ ts. mapped (kinds.Dotted x) (after marks.Dot bare_at ts)) (kinds.Plain x) ws in
    recast n (chain bare_at B) kind_at (λ k. bare_slots (first_name k) ++ kind_tail k) kind_slots (λ k. Unit {0} × KindBehind (first_name k) k) Any never kind_cont kind_cont (λ ws. kind_bind (bare_at ws)) (λ k f. kind_words k) (λ k f. refl) (λ k f. tt) (λ k f. (tt, kind_shape k))
    (word_then n bare_at B bare_slots Any kind_tail KindBehind kind_cont first_name (bare_reads n) (λ x f. tail_reads n x) kind_got (λ x f. (kinds.Plain x, inr refl)))

-- ---- targets

abbrev dot_name : Reader (List ℕ)
dot_name = after marks.Dot bare_at

dot_reads : (n : ℕ) → Reads n dot_name (λ b. mark marks.Dot ∷ bare_slots b) Any never still
dot_reads n = after_reads n marks.Dot bare_at bare_slots Any still [] tt (bare_reads n)

abbrev nowhere : Unit {0} → Target
nowhere u = targets.Voidport

abbrev port_of : List ℕ × List ℕ → Target
port_of q = targets.Port q.0 q.1

abbrev AnyPort : List ℕ × List ℕ → Type 0
AnyPort q = Unit {0} × Unit {0}

abbrev IsTarget : Target → Type 0
IsTarget = Either (Image nowhere Any) (Either (Image targets.Own Any) (Image port_of AnyPort))

target_shape : (t : Target) → IsTarget t
target_shape targets.Voidport = inl (record { from = tt; fine = tt; same = refl })
target_shape (targets.Own port) = inr (inl (record { from = port; fine = tt; same = refl }))
target_shape (targets.Port actor port) = inr (inr (record { from = (actor, port); fine = (tt, tt); same = refl }))

target_leads : (p : Word → Bool) (b : Bool) (x y : Target) → x ≡ y → BeginsWith p b (target_slots x) → BeginsWith p b (target_slots y)
target_leads p b x y e l = subst (λ z. BeginsWith p b (target_slots z)) e l

port_reads : (n : ℕ) → Reads n (λ ws. bare_at ws >>= λ actor. mapped (λ port. targets.Port actor.0 port) (dot_name actor.1)) target_slots (Image port_of AnyPort) never still
port_reads n =
    let pair : Reader (List ℕ × List ℕ) = chain bare_at (λ x ws. mapped (both x) (dot_name ws)) in
    rewhole n (λ ws. mapped port_of (pair ws)) (λ ws. bare_at ws >>= λ actor. mapped (λ port. targets.Port actor.0 port) (dot_name actor.1)) target_slots (Image port_of AnyPort) (Image port_of AnyPort) never still
    (pair_form bare_at dot_name targets.Port) (λ x f. f) (λ x f. f)
    (map_reads n pair port_of (λ (q : List ℕ × List ℕ). bare_slots q.0 ++ mark marks.Dot ∷ bare_slots q.1) target_slots AnyPort never still still (λ q. refl) (λ q. refl)
    (two_reads n bare_at dot_name bare_slots (λ b. mark marks.Dot ∷ bare_slots b) Any Any still still [] tt (λ x y f g. refl) (bare_reads n) (dot_reads n)))

not_void : (t : Target) → Either (Image targets.Own Any) (Image port_of AnyPort) t → BeginsWith (is_reserved reserved.Voidport) false (target_slots t)
not_void t (inl f) = target_leads (is_reserved reserved.Voidport) false (targets.Own f.from) t f.same refl
not_void t (inr f) = target_leads (is_reserved reserved.Voidport) false (port_of f.from) t f.same refl

pub target_reads : (n : ℕ) → Reads n target_at target_slots Any never still
unfolding target_at
target_reads n =
    let V : Reader Target = λ ws. mapped nowhere (reserved_word reserved.Voidport ws) in
    let O : Reader Target = λ ws. mapped targets.Own (dot_name ws) in
    let P : Reader Target = λ ws. bare_at ws >>= λ actor. mapped (λ port. targets.Port actor.0 port) (dot_name actor.1) in
    let O' : Reader Target = λ ws. mapped targets.Own (bare_at (behind ws)) in
    let V' : Reader Target = λ ws. Ok (targets.Voidport, behind ws) in
    rewhole n (pick (is_reserved reserved.Voidport) V (pick (is_mark marks.Dot) O P)) target_at target_slots IsTarget Any never still
    (λ ws. same_pick (is_reserved reserved.Voidport) V' V (pick (is_mark marks.Dot) O' P) (λ ts e. sym (ap (mapped nowhere) (reserved_first reserved.Voidport ts e))) ws
    ∙ ap (λ z. cond (first_is (is_reserved reserved.Voidport) ws) (V ws) z) (same_pick (is_mark marks.Dot) O' O P (λ ts e. ap (mapped targets.Own) (sym (after_mark marks.Dot bare_at ts e))) ws))
    (λ t f. tt) (λ t f. target_shape t)
    (pick_reads n (is_reserved reserved.Voidport) V (pick (is_mark marks.Dot) O P) target_slots (Image nowhere Any) (Either (Image targets.Own Any) (Image port_of AnyPort)) still
    (map_reads n (reserved_word reserved.Voidport) nowhere (λ u. just (words.Reserved reserved.Voidport) ∷ []) target_slots Any never still still (λ u. refl) (λ u. refl) (reserved_word_reads n reserved.Voidport))
    (pick_reads n (is_mark marks.Dot) O P target_slots (Image targets.Own Any) (Image port_of AnyPort) still
    (map_reads n dot_name targets.Own (λ b. mark marks.Dot ∷ bare_slots b) target_slots Any never still still (λ b. refl) (λ b. refl) (dot_reads n))
    (port_reads n)
    (λ t f. target_leads (is_mark marks.Dot) true (targets.Own f.from) t f.same refl)
    (λ t f. target_leads (is_mark marks.Dot) false (port_of f.from) t f.same refl))
    (λ t f. target_leads (is_reserved reserved.Voidport) true targets.Voidport t f.same refl)
    (λ t f. not_void t f))

abbrev aim_of : ℕ × Target → Aim
aim_of q = record { at = q.0; target = q.1 }

unplaced : (t : Target) → Unplaced (target_slots t)
unplaced targets.Voidport = refl
unplaced (targets.Own port) = refl
unplaced (targets.Port actor port) = refl

aim_same : (ws : List Placed) (a : Read Target) → mapped aim_of (mapped (λ (t : Target). (place_of ws, t)) a) ≡ mapped (λ target. record { at = place_of ws; target = target }) a
aim_same ws (Ok p) = refl
aim_same ws (Err miss) = refl

pub aim_reads : (n : ℕ) → Reads n aim_at aim_slots Any never still
unfolding aim_at
aim_reads n =
    rewhole n (λ ws. mapped aim_of (here target_at ws)) aim_at aim_slots (Image aim_of (λ q. Unit {0})) Any never still (λ ws. sym (aim_same ws (target_at ws))) (λ x f. tt) (λ x f. record { from = (x.at, x.target); fine = tt; same = refl })
    (map_reads n (here target_at) aim_of (here_slots target_slots) aim_slots (λ q. Unit {0}) never (λ q. never) still (λ q. refl) (λ q. refl) (here_reads n target_at target_slots Any still (λ t f. unplaced t) (target_reads n)))

-- ---- matches

name_is : (name : List ℕ) (w : Word) → is_name name w ≡ true → words.Name name ≡ w
name_is name (words.Name text) e = ap (λ z. words.Name z) (sym ((bytes_eq-Decides text name).0 e))
name_is name _ e = cc

pub name_self : (name : List ℕ) → is_name name (words.Name name) ≡ true
name_self name = (bytes_eq-Decides name name).1 refl

exactly_reads : (n : ℕ) (name : List ℕ) → Reads n (exactly_at name) (λ u. just (words.Name name) ∷ []) Any never still
exactly_reads n name =
    word_reads n (λ w. when (is_name name w.word) tt) (λ u. just (words.Name name)) (λ u. omega arith)
    (λ w u e. (name_is name w.word ((when_some (is_name name w.word) tt u e).0), tt))
    (λ w u f. ap (λ z. when (is_name name z) tt) (sym f.0) ∙ ap (λ b. when b tt) (name_self name)) tt

-- a reader behind this name
behind_name : {X : Type 0} (n : ℕ) (name : List ℕ) (R : Reader X) (spell : X → List Slot) (cont : X → Word → Bool) → X → Reads n R spell Any never cont → Reads n (chain (exactly_at name) (λ _. R)) (λ x. just (words.Name name) ∷ spell x) Any never cont
behind_name n name R spell cont eg reads =
    rewhole n (chain (exactly_at name) (λ _. R)) (chain (exactly_at name) (λ _. R)) (λ x. just (words.Name name) ∷ spell x) (λ y. Unit {0} × Unit {0}) Any never cont (λ ws. refl) (λ y p. tt) (λ y p. (tt, tt))
    (word_then n (exactly_at name) (λ _. R) (λ u. just (words.Name name) ∷ []) Any spell (λ _ y. Unit {0}) cont (λ y. tt) (exactly_reads n name) (λ u p. reads) (λ u y p. refl) (λ u p. (eg, tt)))

pub field_reads : (n : ℕ) → Reads n field_at field_slots Any never still
unfolding field_at
field_reads n =
    rewhole n (chain text_at (λ key ws. mapped (λ value. record { key = key; value = value }) (after marks.Colon text_at ws))) field_at field_slots _ Any never still (λ ws. refl) (λ p f. tt) (λ p f. (tt, tt, tt))
    (parts_reads n text_at (after marks.Colon text_at) (λ key value. record { key = key; value = value }) (λ p. p.key) (λ p. p.value) Any (λ x. just (words.Text x) ∷ []) (λ x. mark marks.Colon ∷ just (words.Text x) ∷ []) Any Any still still
    (record { ones = λ x y. refl; twos = λ x y. refl; made = λ x y. tt; back = λ z f. refl }) [] tt (quiet (λ x. mark marks.Colon ∷ just (words.Text x) ∷ []) Any Any)
    (text_reads n) (after_reads n marks.Colon text_at (λ x. just (words.Text x) ∷ []) Any still [] tt (text_reads n)))

all_any : {X : Type 0} (xs : List X) → AllByRecursion Any xs
all_any [] = tt
all_any (x ∷ xs) = (tt, all_any xs)

fields_reads : (n : ℕ) → Reads n (fields_at n) (inside_slots marks.OpenBrace (listed_slots marks.CloseBrace field_slots)) Any never still
unfolding fields_at
fields_reads n =
    rewhole n (inside marks.OpenBrace n (λ k. listed marks.CloseBrace field_at)) (fields_at n) (inside_slots marks.OpenBrace (listed_slots marks.CloseBrace field_slots)) (AllByRecursion Any) Any never still (λ ws. refl) (λ x f. tt) (λ x f. all_any x)
    (inside_reads n marks.OpenBrace (λ k. listed marks.CloseBrace field_at) (listed_slots marks.CloseBrace field_slots) (AllByRecursion Any) still [] tt
    (λ k. listed_reads k marks.CloseBrace field_at field_slots Any (record { key = []; value = [] }) tt refl (λ x f. refl) (field_reads k)))

abbrev no_match : Match
no_match = record { group = []; fields = [] }

index_reads : (n : ℕ) → Reads n (index_at n) index_slots Any never still
unfolding index_at
index_reads n =
    rewhole n (chain text_at (λ group ws. mapped (λ fields. record { group = group; fields = fields }) (after marks.Comma (fields_at n) ws))) (index_at n) index_slots _ Any never still (λ ws. refl) (λ p f. tt) (λ p f. (tt, tt, tt))
    (parts_reads n text_at (after marks.Comma (fields_at n)) (λ group fields. record { group = group; fields = fields }) (λ m. m.group) (λ m. m.fields) Any (λ x. just (words.Text x) ∷ []) (λ x. mark marks.Comma ∷ inside_slots marks.OpenBrace (listed_slots marks.CloseBrace field_slots) x) Any Any still still
    (record { ones = λ x y. refl; twos = λ x y. refl; made = λ x y. tt; back = λ z f. refl }) [] tt (quiet (λ x. mark marks.Comma ∷ inside_slots marks.OpenBrace (listed_slots marks.CloseBrace field_slots) x) Any Any)
    (text_reads n) (after_reads n marks.Comma (fields_at n) (inside_slots marks.OpenBrace (listed_slots marks.CloseBrace field_slots)) Any still [] tt (fields_reads n)))

bracket_reads : (n : ℕ) → Reads n (bracket_at n) (inside_slots marks.OpenBracket (λ m. index_slots m ++ mark marks.CloseBracket ∷ [])) Any never still
unfolding bracket_at
bracket_reads n =
    rewhole n (inside marks.OpenBracket n (λ k ws. closed marks.CloseBracket (index_at k ws))) (bracket_at n) (inside_slots marks.OpenBracket (λ m. index_slots m ++ mark marks.CloseBracket ∷ [])) Any Any never still (λ ws. refl) (λ x f. f) (λ x f. f)
    (inside_reads n marks.OpenBracket (λ k ws. closed marks.CloseBracket (index_at k ws)) (λ m. index_slots m ++ mark marks.CloseBracket ∷ []) Any still no_match tt
    (λ k. closed_reads k marks.CloseBracket (index_at k) index_slots Any still (λ x f. refl) (index_reads k)))

abbrev inner : ℕ → Reader Match
inner k ws = closed marks.CloseParen (after marks.Equals (bracket_at k) ws)

inner_reads : (k : ℕ) → Reads k (inner k) (λ m. (mark marks.Equals ∷ inside_slots marks.OpenBracket (λ m. index_slots m ++ mark marks.CloseBracket ∷ []) m) ++ mark marks.CloseParen ∷ []) Any never still
inner_reads k =
    closed_reads k marks.CloseParen (after marks.Equals (bracket_at k)) (λ m. mark marks.Equals ∷ inside_slots marks.OpenBracket (λ m. index_slots m ++ mark marks.CloseBracket ∷ []) m) Any still (λ x f. refl)
    (after_reads k marks.Equals (bracket_at k) (inside_slots marks.OpenBracket (λ m. index_slots m ++ mark marks.CloseBracket ∷ [])) Any still no_match tt (bracket_reads k))

group_reads : (n : ℕ) → Reads n (group_at n) (inside_slots marks.OpenParen group_slots) Any never still
unfolding group_at
group_reads n =
    rewhole n (inside marks.OpenParen n (λ k. chain (exactly_at index_name) (λ _. inner k))) (group_at n) (inside_slots marks.OpenParen group_slots) Any Any never still (λ ws. refl) (λ x f. f) (λ x f. f)
    (inside_reads n marks.OpenParen (λ k. chain (exactly_at index_name) (λ _. inner k)) group_slots Any still no_match tt
    (λ k. behind_name k index_name (inner k) _ still no_match (inner_reads k)))

pub match_reads : (n : ℕ) → Reads n (match_at n) match_slots Any never still
unfolding match_at
match_reads n =
    rewhole n (chain (exactly_at match_name) (λ _. group_at n)) (match_at n) match_slots Any Any never still (λ ws. refl) (λ x f. f) (λ x f. f)
    (behind_name n match_name (group_at n) (inside_slots marks.OpenParen group_slots) still no_match (group_reads n))
