-- Declarations and joins: their readers keep their promises.
use Rattle.std.proofs.Common.{◌≡◌, ℕ, inl, inr, Bool, true, false, not, cond, Some, List, [], ◌∷◌, ◌++◌, Ok, Err, refl, ap, ap₂, sym, ◌∙◌, subst, arith}
use Rattle.std.specs.List.{AllByRecursion}
use Rattle.cv_lex.specs.declared.word.Mark.TheVariants as marks
use Rattle.cv_lex.specs.declared.word.Reserved.TheVariants as reserved
use Rattle.cv_lex.specs.declared.word.Word.{Word}
use Rattle.cv_lex.specs.declared.word.Word.TheVariants as words
use Rattle.cv_lex.specs.declared.word.Placed.{Placed}
use Rattle.cv_readers.specs.declared.name.Name.{Name}
use Rattle.cv_readers.specs.Reading.{Read, Reader, ◌>>=◌, is_mark, is_reserved, name_at, bare_at, place_of, first_is, behind}
use Rattle.cv_readers.specs.Combining.{mapped, after, many, sep, listed}
use Rattle.cv_readers.specs.Slots.{Slot, just, mark, place_first, all_slots, sep_slots, listed_slots, SomeAll}
use Rattle.cv_readers.proofs.Matching.{BeginsWith, leads_first}
use Rattle.cv_readers.proofs.Promises.{never, never_first, Reads, word_reads}
use Rattle.cv_readers.proofs.Chains.{chain, then_reads}
use Rattle.cv_readers.proofs.Changes.{Image, map_reads, recast, rewhole, earlier}
use Rattle.cv_readers.proofs.Choices.{Either, pick, pick_reads}
use Rattle.cv_readers.proofs.Manies.{either, idle, Row, many_reads, leads_append}
use Rattle.cv_readers.proofs.Places.{maybe, maybe_reads, Unplaced, here, here_slots, here_reads}
use Rattle.cv_readers.proofs.Repeats.{after_mark}
use Rattle.cv_readers.proofs.Marks.{name_reads, bare_reads, mark_is, reserved_word, reserved_word_reads, reserved_first}
use Rattle.cv_readers.proofs.Listings.{after_reads, closed_reads, listed_reads, sep_reads, same_pick, word_then, plain, parts_reads, quiet}
use Rattle.cv_syntax.specs.declared.tree.Literal.{Literal}
use Rattle.cv_syntax.specs.declared.tree.Value.{Value}
use Rattle.cv_syntax.specs.declared.tree.Value.TheVariants as values
use Rattle.cv_syntax.specs.declared.tree.Arg.{Arg}
use Rattle.cv_syntax.specs.declared.tree.KindName.{KindName}
use Rattle.cv_syntax.specs.declared.tree.KindName.TheVariants as kinds
use Rattle.cv_syntax.specs.declared.tree.Declare.{Declare}
use Rattle.cv_syntax.specs.declared.tree.JoinSource.{JoinSource}
use Rattle.cv_syntax.specs.declared.tree.JoinSource.TheVariants as sources
use Rattle.cv_syntax.specs.declared.tree.Target.TheVariants as targets
use Rattle.cv_syntax.specs.declared.tree.Aim.{Aim}
use Rattle.cv_syntax.specs.declared.tree.Join.{Join}
use Rattle.cv_syntax.specs.declared.tree.Statement.{Statement}
use Rattle.cv_syntax.specs.declared.tree.Statement.TheVariants as statements
use Rattle.cv_syntax.specs.Small.{kind_at, aim_at, is_any_name}
use Rattle.cv_syntax.specs.Nested.{literal_at}
use Rattle.cv_syntax.specs.Whole.{fraction_in, fraction_at, is_fraction, value_at, arg_at, declare_at, join_at, port_at, named_at, source_at, statement_at, body_at, is_inside}
use Rattle.cv_syntax.specs.Spelling.{name_slots, bare_slots, literal_slots, value_slots, arg_slots, kind_slots, source_slots, aim_slots, join_slots, statement_slots, AnyAim, WholeStatement}
use Rattle.cv_syntax.proofs.Literals.{literal_reads, literal_leads, literal_unplaced}
use Rattle.cv_syntax.proofs.Pieces.{Any, still, kind_reads, kind_cont, aim_reads}

-- ---- values and arguments

fraction_good : (w : Word) (x : List ℕ) → fraction_in w ≡ Some x → words.Fraction x ≡ w
fraction_good (words.Fraction text) x e = let same : text ≡ x = cc in ap (λ z. words.Fraction z) (sym same)
fraction_good _ x e = cc

fraction_reads : (n : ℕ) → Reads n fraction_at (λ x. just (words.Fraction x) ∷ []) Any never still
fraction_reads n = word_reads n (λ w. fraction_in w.word) (λ x. just (words.Fraction x)) (λ x. omega arith) (λ w x e. (fraction_good w.word x e, tt)) (λ w x f. ap fraction_in (sym f.0)) []

abbrev IsValue : Value → Type 0
IsValue = Either (Image values.Fraction Any) (Either (Image values.Name Any) (Image values.Literal Any))

value_shape : (v : Value) → IsValue v
value_shape (values.Fraction x) = inl (record { from = x; fine = tt; same = refl })
value_shape (values.Name x) = inr (inl (record { from = x; fine = tt; same = refl }))
value_shape (values.Literal x) = inr (inr (record { from = x; fine = tt; same = refl }))

value_leads : (p : Word → Bool) (b : Bool) (x y : Value) → x ≡ y → BeginsWith p b (value_slots x) → BeginsWith p b (value_slots y)
value_leads p b x y e l = subst (λ z. BeginsWith p b (value_slots z)) e l

no_fraction : (v : Value) → Either (Image values.Name Any) (Image values.Literal Any) v → BeginsWith is_fraction false (value_slots v)
no_fraction v (inl f) = value_leads is_fraction false (values.Name f.from) v f.same refl
no_fraction v (inr f) = value_leads is_fraction false (values.Literal f.from) v f.same (literal_leads is_fraction false refl refl refl (λ n. refl) (λ t. refl) refl refl f.from)

pub value_reads : (n : ℕ) → Reads n (value_at n) value_slots Any never still
unfolding value_at
value_reads n =
    let F : Reader Value = λ ws. mapped values.Fraction (fraction_at ws) in
    let N : Reader Value = λ ws. mapped values.Name (name_at ws) in
    let L : Reader Value = λ ws. mapped values.Literal (literal_at n ws) in
    rewhole n (pick is_fraction F (pick is_any_name N L)) (value_at n) value_slots IsValue Any never still (λ ws. refl) (λ v f. tt) (λ v f. value_shape v)
    (pick_reads n is_fraction F (pick is_any_name N L) value_slots (Image values.Fraction Any) (Either (Image values.Name Any) (Image values.Literal Any)) still
    (map_reads n fraction_at values.Fraction (λ x. just (words.Fraction x) ∷ []) value_slots Any never still still (λ x. refl) (λ x. refl) (fraction_reads n))
    (pick_reads n is_any_name N L value_slots (Image values.Name Any) (Image values.Literal Any) still
    (map_reads n name_at values.Name name_slots value_slots Any never still still (λ x. refl) (λ x. refl) (name_reads n))
    (map_reads n (literal_at n) values.Literal literal_slots value_slots Any never still still (λ x. refl) (λ x. refl) (literal_reads n))
    (λ v f. value_leads is_any_name true (values.Name f.from) v f.same refl)
    (λ v f. value_leads is_any_name false (values.Literal f.from) v f.same (literal_leads is_any_name false refl refl refl (λ n. refl) (λ t. refl) refl refl f.from)))
    (λ v f. value_leads is_fraction true (values.Fraction f.from) v f.same refl) no_fraction)

abbrev no_value : Value
no_value = values.Fraction []

abbrev no_name : Name
no_name = record { text = []; at = 0 }

arg_reads : (n : ℕ) → Reads n (arg_at n) arg_slots Any never still
unfolding arg_at
arg_reads n =
    rewhole n (chain name_at (λ name ws. mapped (λ value. record { name = name; value = value }) (after marks.Equals (value_at n) ws))) (arg_at n) arg_slots _ Any never still (λ ws. refl) (λ p f. tt) (λ p f. (tt, tt, tt))
    (parts_reads n name_at (after marks.Equals (value_at n)) (λ name value. record { name = name; value = value }) (λ a. a.name) (λ a. a.value) Any name_slots (λ v. mark marks.Equals ∷ value_slots v) Any Any still still
    (record { ones = λ x y. refl; twos = λ x y. refl; made = λ x y. tt; back = λ z f. refl }) no_value tt (quiet (λ v. mark marks.Equals ∷ value_slots v) Any Any)
    (name_reads n) (after_reads n marks.Equals (value_at n) value_slots Any still no_value tt (value_reads n)))

-- ---- declarations, behind a name and ":"

abbrev args_slots : List Arg → List Slot
args_slots args = mark marks.OpenParen ∷ listed_slots marks.CloseParen arg_slots args

abbrev declare_tail : Declare → List Slot
declare_tail d = kind_slots d.kind ++ args_slots d.args

kind_stops : (k : KindName) → kind_cont k (words.Mark marks.OpenParen) ≡ false
kind_stops (kinds.Plain a) = refl
kind_stops (kinds.Dotted a b) = refl

all_any : {X : Type 0} (xs : List X) → AllByRecursion Any xs
all_any [] = tt
all_any (x ∷ xs) = (tt, all_any xs)

abbrev declare_of : Name → KindName → List Arg → Declare
declare_of name kind args = record { name = name; kind = kind; args = args }

declare_reads : (n : ℕ) (name : Name) → Reads n (declare_at n name) declare_tail (λ d. name ≡ d.name) never still
unfolding declare_at
declare_reads n name =
    rewhole n (chain kind_at (λ kind ws. mapped (declare_of name kind) (after marks.OpenParen (listed marks.CloseParen (arg_at n)) ws))) (declare_at n name) declare_tail _ (λ d. name ≡ d.name) never still (λ ws. refl) (λ d f. f.0) (λ d f. (f, tt, all_any d.args))
    (parts_reads n kind_at (after marks.OpenParen (listed marks.CloseParen (arg_at n))) (declare_of name) (λ d. d.kind) (λ d. d.args) (λ d. name ≡ d.name) kind_slots args_slots Any (AllByRecursion Any) kind_cont still
    (record { ones = λ x y. refl; twos = λ x y. refl; made = λ x y. refl; back = λ z f. ap (λ x. declare_of x z.kind z.args) f }) [] tt
    (λ k args front rest f g m. leads_first (kind_cont k) false (args_slots args) front rest (kind_stops k) m)
    (kind_reads n) (after_reads n marks.OpenParen (listed marks.CloseParen (arg_at n)) (listed_slots marks.CloseParen arg_slots) (AllByRecursion Any) still [] tt
    (listed_reads n marks.CloseParen (arg_at n) arg_slots Any (record { name = no_name; value = no_value }) tt refl (λ x f. refl) (arg_reads n))))

-- ---- joins, behind a source

-- a comma goes on with targets
abbrev pub comma : Word → Bool
comma = either (is_mark marks.Comma) never

abbrev join_of : ℕ → JoinSource → List Aim → Join
join_of at source targets = record { at = at; source = source; targets = targets }

abbrev aims_slots : List Aim → List Slot
aims_slots aims = mark marks.Greater ∷ sep_slots marks.Comma aim_slots aims

abbrev join_tail : Join → List Slot
join_tail j = aims_slots j.targets

abbrev JoinOf : ℕ → JoinSource → Join → Type 0
JoinOf at source = Image (join_of at source) (SomeAll AnyAim)

abbrev an_aim : Aim
an_aim = record { at = 0; target = targets.Voidport }

join_reads : (n at : ℕ) (source : JoinSource) → Reads n (join_at at source) join_tail (JoinOf at source) never (λ _. comma)
unfolding join_at
join_reads n at source =
    map_reads n (after marks.Greater (sep marks.Comma aim_at)) (join_of at source) aims_slots join_tail (SomeAll AnyAim) never (λ _. comma) (λ _. comma) (λ x. refl) (λ x. refl)
    (after_reads n marks.Greater (sep marks.Comma aim_at) (sep_slots marks.Comma aim_slots) (SomeAll AnyAim) (λ _. comma) (an_aim ∷ []) (tt, tt)
    (sep_reads n marks.Comma aim_at aim_slots AnyAim never an_aim tt refl (aim_reads n)))

-- ---- sources that begin with a name

abbrev source_tail : JoinSource → List Slot
source_tail sources.Voidport = []
source_tail (sources.Own port) = []
source_tail (sources.Port actor port) = mark marks.Dot ∷ bare_slots port
source_tail (sources.Name name) = []
source_tail (sources.Literal literal) = []

abbrev port_cont : JoinSource → Word → Bool
port_cont sources.Voidport = never
port_cont (sources.Own port) = never
port_cont (sources.Port actor port) = never
port_cont (sources.Name name) = is_mark marks.Dot
port_cont (sources.Literal literal) = never

port_stops : (s : JoinSource) → port_cont s (words.Mark marks.Greater) ≡ false
port_stops sources.Voidport = refl
port_stops (sources.Own port) = refl
port_stops (sources.Port actor port) = refl
port_stops (sources.Name name) = refl
port_stops (sources.Literal literal) = refl

abbrev PortOf : Name → JoinSource → Type 0
PortOf actor = Either (Image (sources.Port actor.text) Any) (λ s. sources.Name actor.text ≡ s)

port_reads : (n : ℕ) (actor : Name) → Reads n (port_at actor) source_tail (PortOf actor) never port_cont
unfolding port_at
port_reads n actor =
    let A : Reader JoinSource = λ ws. mapped (sources.Port actor.text) (after marks.Dot bare_at ws) in
    let A' : Reader JoinSource = λ ws. mapped (sources.Port actor.text) (bare_at (behind ws)) in
    rewhole n (maybe (is_mark marks.Dot) A (sources.Name actor.text)) (port_at actor) source_tail (PortOf actor) (PortOf actor) never port_cont
    (λ ws. same_pick (is_mark marks.Dot) A' A (λ ts. Ok (sources.Name actor.text, ts)) (λ ts e. ap (mapped (sources.Port actor.text)) (sym (after_mark marks.Dot bare_at ts e))) ws) (λ x f. f) (λ x f. f)
    (maybe_reads n (is_mark marks.Dot) A (sources.Name actor.text) source_tail (Image (sources.Port actor.text) Any) port_cont refl refl
    (λ s f. subst (λ z. BeginsWith (is_mark marks.Dot) true (source_tail z)) f.same refl)
    (map_reads n (after marks.Dot bare_at) (sources.Port actor.text) (λ b. mark marks.Dot ∷ bare_slots b) source_tail Any never still port_cont (λ b. refl) (λ b. refl) (after_reads n marks.Dot bare_at bare_slots Any still [] tt (bare_reads n))))

-- ---- statements, behind a name

abbrev statement_tail : Statement → List Slot
statement_tail (statements.Declare d) = mark marks.Colon ∷ declare_tail d
statement_tail (statements.Join j) = source_tail j.source ++ join_tail j

abbrev pub statement_cont : Statement → Word → Bool
statement_cont (statements.Declare d) = never
statement_cont (statements.Join j) = comma

abbrev NamedJoin : Name → Join → Type 0
NamedJoin name j = PortOf name j.source × JoinOf name.at j.source j

abbrev Named : Name → Statement → Type 0
Named name = Either (Image statements.Declare (λ d. name ≡ d.name)) (Image statements.Join (NamedJoin name))

named_join_reads : (n : ℕ) (name : Name) → Reads n (chain (port_at name) (λ s. join_at name.at s)) (λ j. source_tail j.source ++ join_tail j) (NamedJoin name) never (λ _. comma)
named_join_reads n name =
    then_reads n (port_at name) (λ s. join_at name.at s) source_tail (PortOf name) port_cont join_tail (JoinOf name.at) (λ _. comma) (λ j. j.source) (record {
      first = port_reads n name;
      second = λ s f. plain n (join_at name.at s) join_tail (JoinOf name.at s) (port_cont s) (λ _. comma) (join_reads n name.at s);
      got = λ s j f. ap (λ z. z.source) (sym f.same);
      some = λ s f. (join_of name.at s (an_aim ∷ []), record { from = an_aim ∷ []; fine = (tt, tt); same = refl });
      apart = λ s j front rest f g m t. leads_first (port_cont s) false (join_tail j) front rest (port_stops s) m;
    })

join_mapped : (at : ℕ) (a : Read JoinSource) → (a >>= λ s. mapped statements.Join (join_at at s.0 s.1)) ≡ mapped statements.Join (a >>= λ s. join_at at s.0 s.1)
join_mapped at (Ok p) = refl
join_mapped at (Err miss) = refl

lead_by : (name : Name) (s : JoinSource) (aims : List Aim) → PortOf name s → BeginsWith (is_mark marks.Colon) false (source_tail s ++ aims_slots aims)
lead_by name s aims (inl f) = subst (λ z. BeginsWith (is_mark marks.Colon) false (source_tail z ++ aims_slots aims)) f.same refl
lead_by name s aims (inr f) = subst (λ z. BeginsWith (is_mark marks.Colon) false (source_tail z ++ aims_slots aims)) f refl

named_lead : (name : Name) (j : Join) → NamedJoin name j → BeginsWith (is_mark marks.Colon) false (source_tail j.source ++ join_tail j)
named_lead name j f = lead_by name j.source j.targets f.0

named_reads : (n : ℕ) (name : Name) → Reads n (named_at n name) statement_tail (Named name) never statement_cont
unfolding named_at
named_reads n name =
    let D : Reader Statement = λ ws. mapped statements.Declare (after marks.Colon (declare_at n name) ws) in
    let D' : Reader Statement = λ ws. mapped statements.Declare (declare_at n name (behind ws)) in
    let J : Reader Statement = λ ws. mapped statements.Join (chain (port_at name) (λ s. join_at name.at s) ws) in
    let J' : Reader Statement = λ ws. port_at name ws >>= λ s. mapped statements.Join (join_at name.at s.0 s.1) in
    rewhole n (pick (is_mark marks.Colon) D J) (named_at n name) statement_tail (Named name) (Named name) never statement_cont
    (λ ws. same_pick (is_mark marks.Colon) D' D J' (λ ts e. ap (mapped statements.Declare) (sym (after_mark marks.Colon (declare_at n name) ts e))) ws
    ∙ ap (λ z. cond (first_is (is_mark marks.Colon) ws) (D ws) z) (join_mapped name.at (port_at name ws))) (λ x f. f) (λ x f. f)
    (pick_reads n (is_mark marks.Colon) D J statement_tail (Image statements.Declare (λ d. name ≡ d.name)) (Image statements.Join (NamedJoin name)) statement_cont
    (map_reads n (after marks.Colon (declare_at n name)) statements.Declare (λ d. mark marks.Colon ∷ declare_tail d) statement_tail (λ d. name ≡ d.name) never still statement_cont (λ d. refl) (λ d. refl)
    (after_reads n marks.Colon (declare_at n name) declare_tail (λ d. name ≡ d.name) still (declare_of name (kinds.Plain []) []) refl (declare_reads n name)))
    (map_reads n (chain (port_at name) (λ s. join_at name.at s)) statements.Join (λ j. source_tail j.source ++ join_tail j) statement_tail (NamedJoin name) never (λ _. comma) statement_cont (λ j. refl) (λ j. refl) (named_join_reads n name))
    (λ s f. subst (λ z. BeginsWith (is_mark marks.Colon) true (statement_tail z)) f.same refl)
    (λ s f. subst (λ z. BeginsWith (is_mark marks.Colon) false (statement_tail z)) f.same (named_lead name f.from f.fine)))

-- ---- sources that begin with no name

abbrev free_slots : JoinSource → List Slot
free_slots sources.Voidport = just (words.Reserved reserved.Voidport) ∷ []
free_slots (sources.Own port) = mark marks.Dot ∷ bare_slots port
free_slots (sources.Port actor port) = []
free_slots (sources.Name name) = []
free_slots (sources.Literal literal) = literal_slots literal

abbrev nowhere : Unit {0} → JoinSource
nowhere u = sources.Voidport

abbrev IsFree : JoinSource → Type 0
IsFree = Either (Image nowhere Any) (Either (Image sources.Own Any) (Image sources.Literal Any))

free_leads : (p : Word → Bool) (b : Bool) (x y : JoinSource) → x ≡ y → BeginsWith p b (free_slots x) → BeginsWith p b (free_slots y)
free_leads p b x y e l = subst (λ z. BeginsWith p b (free_slots z)) e l

no_void : (s : JoinSource) → Either (Image sources.Own Any) (Image sources.Literal Any) s → BeginsWith (is_reserved reserved.Voidport) false (free_slots s)
no_void s (inl f) = free_leads (is_reserved reserved.Voidport) false (sources.Own f.from) s f.same refl
no_void s (inr f) = free_leads (is_reserved reserved.Voidport) false (sources.Literal f.from) s f.same (literal_leads (is_reserved reserved.Voidport) false refl refl refl (λ n. refl) (λ t. refl) refl refl f.from)

source_reads : (n : ℕ) → Reads n (source_at n) free_slots IsFree never still
unfolding source_at
source_reads n =
    let V : Reader JoinSource = λ ws. mapped nowhere (reserved_word reserved.Voidport ws) in
    let V' : Reader JoinSource = λ ws. Ok (sources.Voidport, behind ws) in
    let O : Reader JoinSource = λ ws. mapped sources.Own (after marks.Dot bare_at ws) in
    let O' : Reader JoinSource = λ ws. mapped sources.Own (bare_at (behind ws)) in
    let L : Reader JoinSource = λ ws. mapped sources.Literal (literal_at n ws) in
    rewhole n (pick (is_reserved reserved.Voidport) V (pick (is_mark marks.Dot) O L)) (source_at n) free_slots IsFree IsFree never still
    (λ ws. same_pick (is_reserved reserved.Voidport) V' V (pick (is_mark marks.Dot) O' L) (λ ts e. sym (ap (mapped nowhere) (reserved_first reserved.Voidport ts e))) ws
    ∙ ap (λ z. cond (first_is (is_reserved reserved.Voidport) ws) (V ws) z) (same_pick (is_mark marks.Dot) O' O L (λ ts e. ap (mapped sources.Own) (sym (after_mark marks.Dot bare_at ts e))) ws)) (λ x f. f) (λ x f. f)
    (pick_reads n (is_reserved reserved.Voidport) V (pick (is_mark marks.Dot) O L) free_slots (Image nowhere Any) (Either (Image sources.Own Any) (Image sources.Literal Any)) still
    (map_reads n (reserved_word reserved.Voidport) nowhere (λ u. just (words.Reserved reserved.Voidport) ∷ []) free_slots Any never still still (λ u. refl) (λ u. refl) (reserved_word_reads n reserved.Voidport))
    (pick_reads n (is_mark marks.Dot) O L free_slots (Image sources.Own Any) (Image sources.Literal Any) still
    (map_reads n (after marks.Dot bare_at) sources.Own (λ b. mark marks.Dot ∷ bare_slots b) free_slots Any never still still (λ b. refl) (λ b. refl) (after_reads n marks.Dot bare_at bare_slots Any still [] tt (bare_reads n)))
    (map_reads n (literal_at n) sources.Literal literal_slots free_slots Any never still still (λ x. refl) (λ x. refl) (literal_reads n))
    (λ s f. free_leads (is_mark marks.Dot) true (sources.Own f.from) s f.same refl)
    (λ s f. free_leads (is_mark marks.Dot) false (sources.Literal f.from) s f.same (literal_leads (is_mark marks.Dot) false refl refl refl (λ n. refl) (λ t. refl) refl refl f.from)))
    (λ s f. free_leads (is_reserved reserved.Voidport) true sources.Voidport s f.same refl) no_void)

free_unplaced : (s : JoinSource) → IsFree s → Unplaced (free_slots s)
free_unplaced s (inl f) = subst (λ z. Unplaced (free_slots z)) f.same refl
free_unplaced s (inr (inl f)) = subst (λ z. Unplaced (free_slots z)) f.same refl
free_unplaced s (inr (inr f)) = subst (λ z. Unplaced (free_slots z)) f.same (literal_unplaced f.from)

-- ---- statements

abbrev source_name : JoinSource → List ℕ
source_name sources.Voidport = []
source_name (sources.Own port) = []
source_name (sources.Port actor port) = actor
source_name (sources.Name name) = name
source_name (sources.Literal literal) = []

abbrev name_of : Statement → Name
name_of (statements.Declare d) = d.name
name_of (statements.Join j) = record { text = source_name j.source; at = j.at }

abbrev IsNamed : Statement → Type 0
IsNamed s = Unit {0} × Named (name_of s) s

abbrev FreeJoin : Join → Type 0
FreeJoin j = IsFree j.source × JoinOf j.at j.source j

abbrev FreeStatement : Statement → Type 0
FreeStatement = Image statements.Join FreeJoin

port_name : (name : Name) (at : ℕ) (s : JoinSource) → PortOf name s → at ≡ name.at → record { text = source_name s; at = at } ≡ name
port_name name at s (inl f) e = ap₂ (λ (t : List ℕ) (a : ℕ). record { text = t; at = a }) (ap source_name (sym f.same)) e
port_name name at s (inr f) e = ap₂ (λ (t : List ℕ) (a : ℕ). record { text = t; at = a }) (ap source_name (sym f)) e

named_got : (name : Name) (s : Statement) → Named name s → name_of s ≡ name
named_got name s (inl f) = ap name_of (sym f.same) ∙ sym f.fine
named_got name s (inr f) = ap name_of (sym f.same) ∙ port_name name f.from.at f.from.source f.fine.0 (ap (λ z. z.at) (sym f.fine.1.same))

port_words_by : (name : Name) (at : ℕ) (s : JoinSource) (aims : List Aim) → PortOf name s → name_slots (record { text = source_name s; at = at }) ++ (source_tail s ++ aims_slots aims) ≡ source_slots at s ++ aims_slots aims
port_words_by name at s aims (inl f) = subst (λ z. name_slots (record { text = source_name z; at = at }) ++ (source_tail z ++ aims_slots aims) ≡ source_slots at z ++ aims_slots aims) f.same refl
port_words_by name at s aims (inr f) = subst (λ z. name_slots (record { text = source_name z; at = at }) ++ (source_tail z ++ aims_slots aims) ≡ source_slots at z ++ aims_slots aims) f refl

port_words : (name : Name) (j : Join) → PortOf name j.source → name_slots (record { text = source_name j.source; at = j.at }) ++ (source_tail j.source ++ join_tail j) ≡ join_slots j
port_words name j f = port_words_by name j.at j.source j.targets f

named_words : (s : Statement) → IsNamed s → name_slots (name_of s) ++ statement_tail s ≡ statement_slots s
named_words (statements.Declare d) f = refl
named_words (statements.Join j) (u, inl f) = let no : statements.Declare f.from ≡ statements.Join j = f.same in cc
named_words (statements.Join j) (u, inr f) =
    let same : f.from ≡ j = (let e : statements.Join f.from ≡ statements.Join j = f.same in cc) in
    port_words (name_of (statements.Join j)) j (subst (λ z. PortOf (name_of (statements.Join j)) z.source) same f.fine.0)

free_words_by : (at : ℕ) (s : JoinSource) (aims : List Aim) → IsFree s → place_first at (free_slots s) ++ aims_slots aims ≡ source_slots at s ++ aims_slots aims
free_words_by at s aims (inl f) = subst (λ z. place_first at (free_slots z) ++ aims_slots aims ≡ source_slots at z ++ aims_slots aims) f.same refl
free_words_by at s aims (inr (inl f)) = subst (λ z. place_first at (free_slots z) ++ aims_slots aims ≡ source_slots at z ++ aims_slots aims) f.same refl
free_words_by at s aims (inr (inr f)) = subst (λ z. place_first at (free_slots z) ++ aims_slots aims ≡ source_slots at z ++ aims_slots aims) f.same refl

named_statement_reads : (n : ℕ) → Reads n (chain name_at (named_at n)) statement_slots IsNamed never statement_cont
named_statement_reads n =
    recast n (chain name_at (named_at n)) (chain name_at (named_at n)) (λ s. name_slots (name_of s) ++ statement_tail s) statement_slots IsNamed IsNamed never statement_cont statement_cont (λ ws. refl) named_words (λ s f. refl) (λ s f. f) (λ s f. f)
    (word_then n name_at (named_at n) name_slots Any statement_tail Named statement_cont name_of (name_reads n) (λ name f. named_reads n name) named_got
    (λ name f. (statements.Declare (declare_of name (kinds.Plain []) []), inl (record { from = declare_of name (kinds.Plain []) []; fine = refl; same = refl }))))

abbrev free_join : ℕ → Reader Join
free_join n = chain (here (source_at n)) (λ q. join_at q.0 q.1)

free_join_reads : (n : ℕ) → Reads n (free_join n) join_slots FreeJoin never (λ _. comma)
free_join_reads n =
    recast n (free_join n) (free_join n) (λ j. place_first j.at (free_slots j.source) ++ join_tail j) join_slots FreeJoin FreeJoin never (λ _. comma) (λ _. comma) (λ ws. refl) (λ j f. free_words_by j.at j.source j.targets f.0) (λ j f. refl) (λ j f. f) (λ j f. f)
    (then_reads n (here (source_at n)) (λ q. join_at q.0 q.1) (here_slots free_slots) (λ q. IsFree q.1) (λ q. never) join_tail (λ q. JoinOf q.0 q.1) (λ _. comma) (λ j. (j.at, j.source)) (record {
      first = here_reads n (source_at n) free_slots IsFree still free_unplaced (source_reads n);
      second = λ q f. join_reads n q.0 q.1;
      got = λ q j f. ap (λ z. (z.at, z.source)) (sym f.same);
      some = λ q f. (join_of q.0 q.1 (an_aim ∷ []), record { from = an_aim ∷ []; fine = (tt, tt); same = refl });
      apart = λ q j front rest f g m t. never_first (front ++ rest);
    }))

abbrev behind_free : Read (ℕ × JoinSource) → Read Join
behind_free a = a >>= λ q. join_at q.0.0 q.0.1 q.1

free_same : (ws : List Placed) (a : Read JoinSource) → (a >>= λ s. mapped statements.Join (join_at (place_of ws) s.0 s.1)) ≡ mapped statements.Join (behind_free (mapped (λ (s : JoinSource). (place_of ws, s)) a))
free_same ws (Ok p) = refl
free_same ws (Err miss) = refl

named_begins : (s : Statement) → IsNamed s → BeginsWith is_any_name true (statement_slots s)
named_begins s f = subst (BeginsWith is_any_name true) (named_words s f) refl

place_leads : (p : Word → Bool) (b : Bool) (at : ℕ) (ss : List Slot) → BeginsWith p b ss → BeginsWith p b (place_first at ss)
place_leads p b at [] l = l
place_leads p b at (s ∷ ss) l = l

free_begins_by : (at : ℕ) (s : JoinSource) (aims : List Aim) → IsFree s → BeginsWith is_any_name false (source_slots at s ++ aims_slots aims)
free_begins_by at s aims (inl f) = subst (λ z. BeginsWith is_any_name false (source_slots at z ++ aims_slots aims)) f.same refl
free_begins_by at s aims (inr (inl f)) = subst (λ z. BeginsWith is_any_name false (source_slots at z ++ aims_slots aims)) f.same refl
free_begins_by at s aims (inr (inr f)) = subst (λ z. BeginsWith is_any_name false (source_slots at z ++ aims_slots aims)) f.same (leads_append is_any_name false (place_first at (literal_slots f.from)) (aims_slots aims) (place_leads is_any_name false at (literal_slots f.from) (literal_leads is_any_name false refl refl refl (λ n. refl) (λ t. refl) refl refl f.from)))

free_begins : (s : Statement) → FreeStatement s → BeginsWith is_any_name false (statement_slots s)
free_begins s f = subst (λ z. BeginsWith is_any_name false (statement_slots z)) f.same (free_begins_by f.from.at f.from.source f.from.targets f.fine.0)

statement_to : (s : Statement) → Either IsNamed FreeStatement s → WholeStatement s
statement_to (statements.Declare d) f = tt
statement_to (statements.Join j) (inl (u, inl f)) = let no : statements.Declare f.from ≡ statements.Join j = f.same in cc
statement_to (statements.Join j) (inl (u, inr f)) =
    let same : f.from ≡ j = (let e : statements.Join f.from ≡ statements.Join j = f.same in cc) in
    subst (SomeAll AnyAim) (ap (λ z. z.targets) f.fine.1.same ∙ ap (λ z. z.targets) same) f.fine.1.fine
statement_to (statements.Join j) (inr f) =
    let same : f.from ≡ j = (let e : statements.Join f.from ≡ statements.Join j = f.same in cc) in
    subst (SomeAll AnyAim) (ap (λ z. z.targets) f.fine.1.same ∙ ap (λ z. z.targets) same) f.fine.1.fine

join_shape : (at : ℕ) (s : JoinSource) (aims : List Aim) → SomeAll AnyAim aims → Either IsNamed FreeStatement (statements.Join (join_of at s aims))
join_shape at sources.Voidport aims f = inr (record { from = join_of at sources.Voidport aims; fine = (inl (record { from = tt; fine = tt; same = refl }), record { from = aims; fine = f; same = refl }); same = refl })
join_shape at (sources.Own port) aims f = inr (record { from = join_of at (sources.Own port) aims; fine = (inr (inl (record { from = port; fine = tt; same = refl })), record { from = aims; fine = f; same = refl }); same = refl })
join_shape at (sources.Port actor port) aims f = inl (tt, inr (record { from = join_of at (sources.Port actor port) aims; fine = (inl (record { from = port; fine = tt; same = refl }), record { from = aims; fine = f; same = refl }); same = refl }))
join_shape at (sources.Name name) aims f = inl (tt, inr (record { from = join_of at (sources.Name name) aims; fine = (inr refl, record { from = aims; fine = f; same = refl }); same = refl }))
join_shape at (sources.Literal literal) aims f = inr (record { from = join_of at (sources.Literal literal) aims; fine = (inr (inr (record { from = literal; fine = tt; same = refl })), record { from = aims; fine = f; same = refl }); same = refl })

statement_from : (s : Statement) → WholeStatement s → Either IsNamed FreeStatement s
statement_from (statements.Declare d) f = inl (tt, inl (record { from = d; fine = refl; same = refl }))
statement_from (statements.Join j) f = join_shape j.at j.source j.targets f

pub statement_reads : (n : ℕ) → Reads n (statement_at n) statement_slots WholeStatement never statement_cont
unfolding statement_at
statement_reads n =
    let N : Reader Statement = chain name_at (named_at n) in
    let F : Reader Statement = λ ws. mapped statements.Join (free_join n ws) in
    rewhole n (pick is_any_name N F) (statement_at n) statement_slots (Either IsNamed FreeStatement) WholeStatement never statement_cont
    (λ ws. ap (λ z. cond (first_is is_any_name ws) (N ws) z) (free_same ws (source_at n ws))) statement_to statement_from
    (pick_reads n is_any_name N F statement_slots IsNamed FreeStatement statement_cont (named_statement_reads n)
    (map_reads n (free_join n) statements.Join join_slots statement_slots FreeJoin never (λ _. comma) statement_cont (λ j. refl) (λ j. refl) (free_join_reads n)) named_begins free_begins)

-- ---- bodies

source_leads : (p : Word → Bool) (b : Bool) → ((t : List ℕ) → p (words.Name t) ≡ b) → p (words.Reserved reserved.Voidport) ≡ b → p (words.Mark marks.Dot) ≡ b → ((l : Literal) → BeginsWith p b (literal_slots l)) → (at : ℕ) (s : JoinSource) (aims : List Aim) → BeginsWith p b (source_slots at s ++ aims_slots aims)
source_leads p b name void dot lit at sources.Voidport aims = void
source_leads p b name void dot lit at (sources.Own port) aims = dot
source_leads p b name void dot lit at (sources.Port actor port) aims = name actor
source_leads p b name void dot lit at (sources.Name text) aims = name text
source_leads p b name void dot lit at (sources.Literal literal) aims = leads_append p b (place_first at (literal_slots literal)) (aims_slots aims) (place_leads p b at (literal_slots literal) (lit literal))

-- what begins no literal and no name begins no statement
pub statement_leads : (p : Word → Bool) (b : Bool) → ((t : List ℕ) → p (words.Name t) ≡ b) → p (words.Reserved reserved.Voidport) ≡ b → p (words.Mark marks.Dot) ≡ b → ((l : Literal) → BeginsWith p b (literal_slots l)) → (s : Statement) → BeginsWith p b (statement_slots s)
statement_leads p b name void dot lit (statements.Declare d) = name d.name.text
statement_leads p b name void dot lit (statements.Join j) = source_leads p b name void dot lit j.at j.source j.targets

abbrev a_statement : Statement
a_statement = statements.Declare (declare_of no_name (kinds.Plain []) [])

statement_follows : (x y : Statement) → BeginsWith (statement_cont x) false (statement_slots y)
statement_follows (statements.Declare d) y = statement_leads never false (λ t. refl) refl refl (literal_leads never false refl refl refl (λ n. refl) (λ t. refl) refl refl) y
statement_follows (statements.Join j) y = statement_leads comma false (λ t. refl) refl refl (literal_leads comma false refl refl refl (λ n. refl) (λ t. refl) refl refl) y

closes : (x : Statement) → statement_cont x (words.Mark marks.CloseBrace) ≡ false
closes (statements.Declare d) = refl
closes (statements.Join j) = refl

not_true : (b : Bool) → not b ≡ false → b ≡ true
not_true true e = refl
not_true false e = cc

both_false : (b : Bool) → cond b false false ≡ false
both_false true = refl
both_false false = refl

pub quiet_idle : (p : Word → Bool) (ws : List Placed) → first_is never ws ≡ false → first_is (idle p never) ws ≡ false
quiet_idle p [] e = refl
quiet_idle p (w ∷ ws) e = both_false (p w.word)

body_row : (n : ℕ) → Row n is_inside never (statement_at n) statement_slots WholeStatement statement_cont
body_row n = record {
  item = statement_reads n;
  starts = λ x f. statement_leads is_inside true (λ t. refl) refl refl (literal_leads is_inside true refl refl refl (λ n. refl) (λ t. refl) refl refl) x;
  follows = λ x y f g. statement_follows x y;
  same = λ x w f e. ap (statement_cont x) (sym (mark_is marks.CloseBrace w (not_true (is_mark marks.CloseBrace w) e))) ∙ closes x;
}

pub body_reads : (n : ℕ) → Reads n (body_at n) (λ ss. all_slots statement_slots ss ++ mark marks.CloseBrace ∷ []) (AllByRecursion WholeStatement) never still
unfolding body_at
body_reads n =
    closed_reads n marks.CloseBrace (many is_inside (statement_at n)) (all_slots statement_slots) (AllByRecursion WholeStatement) (λ _. either is_inside never) (λ x f. refl)
    (earlier n (many is_inside (statement_at n)) (all_slots statement_slots) (AllByRecursion WholeStatement) (idle is_inside never) never (λ _. either is_inside never) (quiet_idle is_inside)
    (many_reads n is_inside never (statement_at n) statement_slots WholeStatement statement_cont (body_row n)))
