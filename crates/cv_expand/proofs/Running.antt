-- What is made of events, one part after another.
use Rattle.std.proofs.Common.{◌≡◌, ℕ, ◌+◌, ◌≤◌, Bool, true, false, if◌then◌else◌, List, [], ◌∷◌, ◌++◌, Some, Result, Ok, Err, refl, sym, ◌∙◌, ap, arith}
use Rattle.cv_syntax.specs.declared.tree.Statement.{Statement}
use Rattle.cv_syntax.specs.declared.tree.Statement.TheVariants as statements
use Rattle.cv_token.specs.declared.pairs.Pair.{Pair}
use Rattle.cv_syntax.specs.declared.tree.Arg.{Arg}
use Rattle.cv_syntax.specs.declared.tree.Declare.{Declare}
use Rattle.cv_syntax.specs.declared.tree.Component.{Component}
use Rattle.cv_expand.specs.declared.fault.ExpandFault.{ExpandFault}
use Rattle.cv_expand.specs.declared.flat.Argument.{Argument}
use Rattle.cv_expand.specs.declared.flat.Instance.{Instance}
use Rattle.cv_expand.specs.declared.flat.Parts.{Parts}
use Rattle.cv_expand.specs.declared.setting.World.{World}
use Rattle.cv_expand.specs.declared.setting.Spot.{Spot}
use Rattle.cv_expand.specs.declared.setting.Seen.{Seen}
use Rattle.cv_expand.specs.Walk.{Event, Inner, bads, instance_met, is_value, places_of, arguments, argument_faults, count_faults, instance_at, inside, inside_with, instance_events, walk, seen_with, statement_events, body_events}
use Rattle.cv_expand.specs.Runs.{take_in, goes_on, run, failure, FailsAs, Answers, unless}
use Rattle.cv_expand.proofs.Unless.{passed, no_failure, any}

goes_on_twice : {X Y Z : Type 0} (r : Result X ExpandFault) (f : X → Result Y ExpandFault) (g : Y → Result Z ExpandFault) → goes_on r (λ x. goes_on (f x) g) ≡ goes_on (goes_on r f) g
goes_on_twice (Ok x) f g = refl
goes_on_twice (Err fault) f g = refl

goes_on_same : {X Y : Type 0} (r : Result X ExpandFault) (f g : X → Result Y ExpandFault) → ((x : X) → f x ≡ g x) → goes_on r f ≡ goes_on r g
goes_on_same (Ok x) f g same = same x
goes_on_same (Err fault) f g same = refl

pub run-append : (f : Parts) (es gs : List Event) → run f (es ++ gs) ≡ goes_on (run f es) (λ g. run g gs)
run-append f [] gs = refl
run-append f (e ∷ es) gs = goes_on_same (take_in f e) _ _ (λ g. run-append g es gs) ∙ goes_on_twice (take_in f e) (λ g. run g es) (λ g. run g gs)

-- where the first part is made, the rest goes on from it
pub run_on : (f g : Parts) (es gs : List Event) → run f es ≡ Ok g → run f (es ++ gs) ≡ run g gs
run_on f g es gs e = run-append f es gs ∙ ap (λ r. goes_on r (λ h. run h gs)) e

stops_on : {X Y : Type 0} (e : ExpandFault) (r : Result X ExpandFault) (f : X → Result Y ExpandFault) → FailsAs e (failure r) → FailsAs e (failure (goes_on r f))
stops_on e (Ok x) f h = no_failure e h (any e (failure (f x)))
stops_on e (Err fault) f h = h

-- a fault of the first part is one of the whole
pub run_stop : (e : ExpandFault) (f : Parts) (es gs : List Event) → FailsAs e (failure (run f es)) → FailsAs e (failure (run f (es ++ gs)))
run_stop e f es gs h = rw (run-append f es gs) (stops_on e (run f es) (λ g. run g gs) h)

-- faults are told before what stands behind them
pub run_bads : {X : Type 0} (f : Parts) (fs : List ExpandFault) (es : List Event) (x y : X) → unless fs x ≡ Ok y → run f (bads fs ++ es) ≡ run f es
run_bads f fs es x y e = rw (passed fs x y e).0 refl

pub stop_bads : {X : Type 0} (e : ExpandFault) (f : Parts) (fs : List ExpandFault) (es : List Event) (x : X) → FailsAs e (failure (unless fs x)) → FailsAs e (failure (run f (bads fs ++ es)))
stop_bads e f [] es x h = no_failure e h (any e (failure (run f es)))
stop_bads e f (fault ∷ fs) es x h = h

-- one statement of those that are left
pub next_statement : (inner : Inner) (w : World) (s : Spot) (seen : Seen) (body rest : List Statement) (x : Statement) (f g : Parts) (all : Result Parts ExpandFault)
    → body ≡ x ∷ rest → run f (body_events inner w s seen body) ≡ all → run f (statement_events inner w s seen x) ≡ Ok g
    → run g (body_events inner w s (seen_with seen x) rest) ≡ all
next_statement inner w s seen body rest x f g all split left here =
    sym (run_on f g (statement_events inner w s seen x) (body_events inner w s (seen_with seen x) rest) here)
    ∙ ap (λ b. run f (body_events inner w s seen b)) (sym split) ∙ left

pub stop_statement : (inner : Inner) (w : World) (s : Spot) (seen : Seen) (body rest : List Statement) (x : Statement) (f : Parts) (all : Result Parts ExpandFault) (e : ExpandFault)
    → body ≡ x ∷ rest → run f (body_events inner w s seen body) ≡ all → FailsAs e (failure (run f (statement_events inner w s seen x)))
    → FailsAs e (failure all)
stop_statement inner w s seen body rest x f all e split left here =
    rw (← left, split) (run_stop e f (statement_events inner w s seen x) (body_events inner w s (seen_with seen x) rest) here)

one_more : (b : Bool) (n : ℕ) → (if b then n + 1 else n) ≤ n + 1
one_more true n = omega arith
one_more false n = omega arith

pub seen_few : (seen : Seen) (x : Statement) → (seen_with seen x).constants ≤ seen.constants + 1
seen_few seen (statements.Declare d) = omega arith
seen_few seen (statements.Join j) = one_more (is_value j.source) seen.constants

-- ---- going into an instance

pub into : (w : World) (s : Spot) (d : Declare) (dargs : List Arg) (n : List ℕ) (c : Component) (f g : Parts) (places : List (Pair ℕ)) (args : List Argument) (inner : Spot) (i : Instance) (body : List Statement) (x y : Unit {0}) (result : Result Parts ExpandFault)
    → unless (count_faults d c) x ≡ Ok y → places ≡ places_of c.args → dargs ≡ d.args
    → unless (argument_faults w s (Some places) dargs) (arguments w s dargs) ≡ Ok args
    → inner ≡ inside_with s d n args → i ≡ instance_at s d n c → take_in f (instance_met i) ≡ Ok g → body ≡ c.body
    → Answers result (run g (walk w inner body)) → Answers result (run f (instance_events (walk w) w s d n c))
into w s d dargs n c f g places args inner i body x y result counted p a given in_spot made put whole h =
    let here = rw (p, a) at given in
    let known = passed (argument_faults w s (Some (places_of c.args)) d.args) (arguments w s d.args) args here in
    let no_count = (passed (count_faults d c) x y counted).0 in
    let taken = rw made at put in
    let walked = rw (in_spot, whole) at h in
    rw (no_count, known.0, taken, known.1) walked

pub kept_out : (w : World) (s : Spot) (d : Declare) (dargs : List Arg) (n : List ℕ) (c : Component) (f : Parts) (places : List (Pair ℕ)) (args : List Argument) (i : Instance) (x y : Unit {0}) (e : ExpandFault)
    → unless (count_faults d c) x ≡ Ok y → places ≡ places_of c.args → dargs ≡ d.args
    → unless (argument_faults w s (Some places) dargs) (arguments w s dargs) ≡ Ok args
    → i ≡ instance_at s d n c → FailsAs e (failure (take_in f (instance_met i)))
    → FailsAs e (failure (run f (instance_events (walk w) w s d n c)))
kept_out w s d dargs n c f places args i x y e counted p a given made put =
    let here = rw (p, a) at given in
    let known = passed (argument_faults w s (Some (places_of c.args)) d.args) (arguments w s d.args) args here in
    let no_count = (passed (count_faults d c) x y counted).0 in
    let taken = rw made at put in
    rw (no_count, known.0) (stops_on e (take_in f (instance_met (instance_at s d n c))) (λ g. run g (walk w (inside w s d n) c.body)) taken)
