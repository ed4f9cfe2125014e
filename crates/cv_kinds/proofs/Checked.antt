-- Arguments in which no fault is found are, in order, arguments of the kind's row.
use Rattle.std.proofs.Common.{◌≡◌, ◌≤◌, ℕ, suc, ◌+◌, ◌*◌, ◌^◌, ◌==◌, pos, Bool, true, false, ◌&&◌, ◌||◌, if◌then◌else◌, List, [], ◌∷◌, length, take, drop, Option, Some, None, is_some, is_none, option_map, option_and_then, nat_le, position, refl, sym, ap, ◌∙◌, subst, arith, leb-true, lt-ltb}
use Rattle.std.proofs.lemmas.Bool.{and_parts, or_parts}
use Rattle.std.proofs.lemmas.Int.{ints}
use Rattle.std.proofs.lemmas.Slice.Eq.{bytes_eq-Decides}
use Rattle.std.specs.List.{list_any}
use Rattle.std.specs.Option.{option_or, unwrap_or}
use Rattle.std.specs.Str.{bytes_eq}
use Rattle.cv_token.specs.declared.token.Token.{Token}
use Rattle.cv_token.specs.declared.token.Token.TheVariants as token
use Rattle.cv_token.specs.Shape.{has_64_bits}
use Rattle.cv_behave.specs.Values.{has_fit}
use Rattle.cv_behave.proofs.Fitting.{bool_fits, both, empty_text_fits, int_fits, null_fits}
use Rattle.cv_calc.specs.declared.kind.CalcKind.{CalcKind}
use Rattle.cv_calc.specs.declared.kind.CalcKind.TheVariants as calc
use Rattle.cv_flow.specs.declared.kind.FlowKind.{FlowKind}
use Rattle.cv_flow.specs.declared.kind.FlowKind.TheVariants as flow
use Rattle.cv_kinds.specs.declared.arguments.ArgFault.TheVariants as fault
use Rattle.cv_kinds.specs.declared.arguments.Argument.{Argument}
use Rattle.cv_kinds.specs.declared.arguments.Given.{Given}
use Rattle.cv_kinds.specs.declared.arguments.Given.TheVariants as given
use Rattle.cv_kinds.specs.declared.kind.Kind.{Kind}
use Rattle.cv_kinds.specs.declared.kind.Kind.TheVariants as kind
use Rattle.cv_kinds.specs.declared.table.Preset.{Preset}
use Rattle.cv_kinds.specs.declared.table.Preset.TheVariants as preset
use Rattle.cv_kinds.specs.declared.table.Sort.{Sort}
use Rattle.cv_kinds.specs.declared.table.Sort.TheVariants as sort
use Rattle.cv_kinds.specs.Arguments.{arguments_of, fault_at, fault_for, fault_named, fault_of, faults_from, fraction, given_or_preset, is_lacking, is_point, is_required, last_given, milliseconds_of, nothing_but, number_of, of_parts, plain_token, preset_token, seconds, signed_fraction, sort_named, thousandths, time_of, token_given, within_longest}
use Rattle.cv_kinds.specs.Sorts.{are_args, are_arguments, is_of, is_within, longest}
use Rattle.cv_kinds.specs.Table.{Parameter, calc_line, line_of, flow_line}

-- ---- durations

abbrev Short : Option ℕ → Type 0
Short o = (n : ℕ) → o ≡ Some n → n ≤ longest

if_short : (b : Bool) (x y : Option ℕ) → Short x → Short y → Short (if b then x else y)
if_short true x y h g = h
if_short false x y h g = g

then_short : {A : Type 0} (o : Option A) (f : A → Option ℕ) → ((a : A) → Short (f a)) → Short (option_and_then f o)
then_short None f h n e = cc
then_short (Some a) f h n e = h a n e

none_short : Short None
none_short n e = cc

capped : (b : Bool) (m : ℕ) → (b ≡ true → m ≤ longest) → Short (if b then Some m else None)
capped true m h n e = let same : m ≡ n = cc in subst (λ (x : ℕ). x ≤ longest) same (h refl)
capped false m h n e = cc

within_short : (m : ℕ) → Short (within_longest m)
within_short m = capped (nat_le m longest) m (λ e. leb-true m longest e)

nothing_short : (m : ℕ) → Short (nothing_but m)
nothing_short m = if_short (m == 0) (Some 0) None (λ n e. let same : 0 ≡ n = cc in omega (arith, same)) none_short

time_short : (whole count n : ℕ) → Short (time_of whole count n)
time_short whole count n = then_short (thousandths count n) (λ part. within_longest (whole * 1000 + part)) (λ part. within_short (whole * 1000 + part))

parts_short : (front back : List ℕ) → Short (of_parts front back)
parts_short front back = then_short (number_of front) (λ whole. option_and_then (time_of whole (length back)) (number_of back)) (λ whole. then_short (number_of back) (time_of whole (length back)) (time_short whole (length back)))

fraction_short : (text : List ℕ) → Short (fraction text)
fraction_short text = then_short (position is_point text) (λ point. of_parts (take point text) (drop (point + 1) text)) (λ point. parts_short (take point text) (drop (point + 1) text))

signed_short : (text : List ℕ) → Short (signed_fraction text)
signed_short [] = none_short
signed_short (b ∷ bs) = if_short (b == 45) (option_and_then nothing_but (fraction bs)) (fraction (b ∷ bs)) (then_short (fraction bs) nothing_but nothing_short) (fraction_short (b ∷ bs))

seconds_short : (t : Token) → Short (seconds t)
seconds_short (token.Int (pos n)) = within_short (n * 1000)
seconds_short _ = none_short

milliseconds_short : (v : Given) → Short (milliseconds_of v)
milliseconds_short (given.Token t) = seconds_short t
milliseconds_short (given.Fraction text) = signed_short text

-- ---- one value

-- the token fits and is of the sort
abbrev Is : Sort → Token → Type 0
Is s t = (has_fit t ≡ true) × (is_of s t ≡ true)

small_bits : (n : ℕ) → n ≤ longest → has_64_bits (pos n) ≡ true
small_bits n h = lt-ltb n (2 ^ 63) (omega arith)

not_above : (n : ℕ) → n ≤ longest → is_within (pos 0) (pos longest) (token.Int (pos n)) ≡ true
not_above n h = grind (arith, ints)

duration_is : (o : Option ℕ) (t : Token) → Short o → option_map (λ n. token.Int (pos n)) o ≡ Some t → Is sort.Duration t
duration_is None t h e = cc
duration_is (Some n) t h e =
    let same : token.Int (pos n) ≡ t = cc in
    let small : n ≤ longest = h n refl in
    subst (Is sort.Duration) same (int_fits (pos n) (small_bits n small), not_above n small)

taken_if : (b : Bool) (u t : Token) → (if b then Some u else None) ≡ Some t → (b ≡ true) × (u ≡ t)
taken_if true u t e = let same : u ≡ t = cc in (refl, same)
taken_if false u t e = cc

plain_is : (s : Sort) (v : Given) (t : Token) → plain_token s v ≡ Some t → Is s t
plain_is s (given.Token u) t e = let h = taken_if (has_fit u && is_of s u) u t e in subst (Is s) h.1 (and_parts _ _ h.0)
plain_is s (given.Fraction text) t e = cc

given_is : (s : Sort) (v : Given) (t : Token) → token_given s v ≡ Some t → Is s t
given_is sort.Duration v t e = duration_is (milliseconds_of v) t (milliseconds_short v) e
given_is sort.Any v t e = plain_is sort.Any v t e
given_is sort.Truth v t e = plain_is sort.Truth v t e
given_is sort.Int v t e = plain_is sort.Int v t e
given_is (sort.AtLeast low) v t e = plain_is (sort.AtLeast low) v t e
given_is (sort.Within low high) v t e = plain_is (sort.Within low high) v t e
given_is sort.Text v t e = plain_is sort.Text v t e
given_is sort.List v t e = plain_is sort.List v t e
given_is sort.Operator v t e = plain_is sort.Operator v t e
given_is sort.TextOrInt v t e = plain_is sort.TextOrInt v t e

-- ---- what stands where none is given

abbrev has_bits : Preset → Bool
has_bits (preset.Int z) = has_64_bits z
has_bits _ = true

preset_fits : (p : Preset) → has_bits p ≡ true → has_fit (preset_token p) ≡ true
preset_fits preset.Required e = null_fits
preset_fits preset.Null e = null_fits
preset_fits preset.False e = bool_fits false
preset_fits (preset.Int z) e = int_fits z e
preset_fits preset.EmptyText e = empty_text_fits

-- what stands where none is given is of the sort, where it may
abbrev is_sound : Parameter → Bool
is_sound p = is_required p.preset || (has_bits p.preset && is_of p.sort (preset_token p.preset))

preset_is : (b : Bool) (p : Preset) (s : Sort) → (b || (has_bits p && is_of s (preset_token p))) ≡ true → (b && true) ≡ false → Is s (preset_token p)
preset_is true p s e l = cc
preset_is false p s e l = let h = and_parts _ _ e in (preset_fits p h.0, h.1)

-- ---- one argument

neither : {A : Type 0} (x y : Option A) → option_or x y ≡ None → (x ≡ None) × (y ≡ None)
neither None y e = (refl, e)
neither (Some a) y e = cc

no_fault : (b c : Bool) (place : ℕ) → (if b then None else if c then Some (fault.Fraction place) else Some (fault.BadArg place)) ≡ None → b ≡ true
no_fault true c place e = refl
no_fault false true place e = cc
no_fault false false place e = cc

here : (ps : List Parameter) (a : Argument) (place : ℕ) (name : List ℕ) (s : Sort) (v : Given) (b : Bool) → sort_named ps name ≡ Some s → fault_at ps place a ≡ None → bytes_eq a.name name ≡ b → (if b then Some a.value else None) ≡ Some v → is_some (token_given s v) ≡ true
here ps a place name s v true named clean is e =
    let same : a.value ≡ v = cc in
    let sorted : sort_named ps a.name ≡ Some s = ap (sort_named ps) ((bytes_eq-Decides a.name name).0 is) ∙ named in
    let clear : fault_for place a.value s ≡ None = ap (fault_named place a.value) (sym sorted) ∙ clean in
    subst (λ (x : Given). is_some (token_given s x) ≡ true) same (no_fault (is_some (token_given s a.value)) _ place clear)
here ps a place name s v false named clean is e = cc

last_of : (ps : List Parameter) (a : Argument) (place : ℕ) (name : List ℕ) (s : Sort) (v : Given) (later : Option Given) → sort_named ps name ≡ Some s → fault_at ps place a ≡ None → (later ≡ Some v → is_some (token_given s v) ≡ true) → option_or later (if bytes_eq a.name name then Some a.value else None) ≡ Some v → is_some (token_given s v) ≡ true
last_of ps a place name s v None named clean h e = here ps a place name s v (bytes_eq a.name name) named clean refl e
last_of ps a place name s v (Some w) named clean h e = h e

-- the last value of a name is one that its parameter takes
last_taken : (ps : List Parameter) (args : List Argument) (place : ℕ) (name : List ℕ) (s : Sort) (v : Given) → sort_named ps name ≡ Some s → faults_from ps place args ≡ None → last_given name args ≡ Some v → is_some (token_given s v) ≡ true
last_taken ps [] place name s v named clean e = cc
last_taken ps (a ∷ args) place name s v named clean e =
    let h = neither (fault_at ps place a) (faults_from ps (suc place) args) clean in
    last_of ps a place name s v (last_given name args) named h.0 (λ l. last_taken ps args (suc place) name s v named h.1 l) e

made : (s : Sort) (v : Given) (o : Option Token) → token_given s v ≡ o → is_some o ≡ true → Is s (unwrap_or o token.Null)
made s v None is e = cc
made s v (Some t) is e = given_is s v t is

either_given : (p : Parameter) (o : Option Given) → is_sound p ≡ true → (is_required p.preset && is_none o) ≡ false → ((v : Given) → o ≡ Some v → is_some (token_given p.sort v) ≡ true) → Is p.sort (given_or_preset p o)
either_given p None sound there h = preset_is (is_required p.preset) p.preset p.sort sound there
either_given p (Some v) sound there h = made p.sort v (token_given p.sort v) refl (h v refl)

-- ---- all arguments

-- each of these parameters is the one of its name among all, and sound
abbrev Sound : List Parameter → List Parameter → Type 0
Sound all [] = Unit {0}
Sound all (p ∷ ps) = ((sort_named all p.name ≡ Some p.sort) × (is_sound p ≡ true)) × Sound all ps

all_are : (all ps : List Parameter) (args : List Argument) → Sound all ps → faults_from all 0 args ≡ None → list_any (is_lacking args) ps ≡ false → are_arguments ps (arguments_of ps args) ≡ true
all_are all [] args sound clean there = refl
all_are all (p ∷ ps) args sound clean there =
    let l = or_parts (is_lacking args p) (list_any (is_lacking args) ps) there in
    let h = either_given p (last_given p.name args) sound.0.1 l.0 (λ v e. last_taken all args 0 p.name p.sort v sound.0.0 clean e) in
    both _ _ h.0 (both _ _ h.1 (all_are all ps args sound.1 clean l.1))

none_missing : (b : Bool) → (if b then Some fault.Missing else None) ≡ None → b ≡ false
none_missing true e = cc
none_missing false e = refl

flow_sound : (k : FlowKind) → Sound (flow_line k).params (flow_line k).params
flow_sound flow.Constant = ((refl, refl), ((refl, refl), tt))
flow_sound flow.Counter = ((refl, refl), tt)
flow_sound flow.CountTimer = ((refl, refl), ((refl, refl), ((refl, refl), tt)))
flow_sound flow.Identity = ((refl, refl), tt)
flow_sound flow.Sequence = ((refl, refl), tt)
flow_sound flow.Trigger = ((refl, refl), ((refl, refl), tt))
flow_sound flow.Delay = ((refl, refl), tt)
flow_sound flow.Init = ((refl, refl), tt)
flow_sound flow.Batch = ((refl, refl), tt)
flow_sound flow.Take = ((refl, refl), tt)
flow_sound flow.Skip = ((refl, refl), tt)
flow_sound flow.Every = ((refl, refl), tt)
flow_sound k = tt

calc_sound : (k : CalcKind) → Sound (calc_line k).params (calc_line k).params
calc_sound calc.Compare = ((refl, refl), tt)
calc_sound calc.Prefix = ((refl, refl), tt)
calc_sound calc.JsonGet = ((refl, refl), tt)
calc_sound k = tt

sound : (k : Kind) → Sound (line_of k).params (line_of k).params
unfolding line_of
sound (kind.Flow k) = flow_sound k
sound (kind.Calc k) = calc_sound k

pub checked : (k : Kind) (args : List Argument) → fault_of (line_of k).params args ≡ None → are_args k (arguments_of (line_of k).params args) ≡ true
checked k args e =
    let h = neither (faults_from (line_of k).params 0 args) _ e in
    all_are (line_of k).params (line_of k).params args (sound k) h.0 (none_missing _ h.1)
