-- What is given for the arguments of an actor, what is wrong with it, and the list that it makes.
use Rattle.std.specs.Prelude.{ℕ, suc, pos, ◌+◌, ◌-◌, ◌*◌, ◌==◌, Bool, true, false, ◌&&◌, nat_le, if◌then◌else◌, List, [], ◌∷◌, length, map, take, drop, position, Option, Some, None, is_some, is_none, option_map, option_and_then, unwrap_or}
use Rattle.std.specs.Option.{option_or}
use Rattle.std.specs.List.{list_any}
use Rattle.std.specs.Str.{bytes_eq}
use Rattle.cv_token.specs.declared.token.Token.{Token}
use Rattle.cv_token.specs.declared.token.Token.TheVariants as token
use Rattle.cv_behave.specs.Values.{has_fit}
use Rattle.cv_kinds.specs.declared.arguments.ArgFault.{ArgFault}
use Rattle.cv_kinds.specs.declared.arguments.ArgFault.TheVariants as fault
use Rattle.cv_kinds.specs.declared.arguments.Argument.{Argument}
use Rattle.cv_kinds.specs.declared.arguments.Given.{Given}
use Rattle.cv_kinds.specs.declared.arguments.Given.TheVariants as given
use Rattle.cv_kinds.specs.declared.table.Preset.{Preset}
use Rattle.cv_kinds.specs.declared.table.Preset.TheVariants as preset
use Rattle.cv_kinds.specs.declared.table.Sort.{Sort}
use Rattle.cv_kinds.specs.declared.table.Sort.TheVariants as sort
use Rattle.cv_kinds.specs.Sorts.{is_of, longest}
use Rattle.cv_kinds.specs.Table.{Parameter}

-- ---- durations

-- the characters of a fraction
abbrev pub digit_0 : ℕ
digit_0 = 48

abbrev pub digit_9 : ℕ
digit_9 = 57

abbrev pub minus : ℕ
minus = 45

abbrev pub point : ℕ
point = 46

abbrev pub is_digit : ℕ → Bool
is_digit b = nat_le digit_0 b && nat_le b digit_9

-- the number that digits write behind a number; None where one is no digit
abbrev pub read_digits : ℕ → List ℕ → Option ℕ
read_digits n [] = Some n
read_digits n (d ∷ ds) = if is_digit d then read_digits (n * 10 + (d - digit_0)) ds else None

-- the number that at least one digit writes
abbrev pub number_of : List ℕ → Option ℕ
number_of [] = None
number_of (d ∷ ds) = read_digits 0 (d ∷ ds)

-- the thousandths that one, two or three decimals stand for
abbrev pub thousandths : ℕ → ℕ → Option ℕ
thousandths count n = if count == 1 then Some (n * 100) else if count == 2 then Some (n * 10) else if count == 3 then Some n else None

-- milliseconds, where they are no more than a duration has
abbrev pub within_longest : ℕ → Option ℕ
within_longest n = if nat_le n longest then Some n else None

-- the milliseconds of so many seconds and thousandths
abbrev pub time_of : ℕ → ℕ → ℕ → Option ℕ
time_of whole count n = option_and_then (λ part. within_longest (whole * 1000 + part)) (thousandths count n)

abbrev pub of_parts : List ℕ → List ℕ → Option ℕ
of_parts before behind = option_and_then (λ whole. option_and_then (time_of whole (length behind)) (number_of behind)) (number_of before)

abbrev pub is_point : ℕ → Bool
is_point b = b == point

-- the milliseconds of a text `DIGITS.DIGITS`
abbrev pub fraction : List ℕ → Option ℕ
fraction text = option_and_then (λ place. of_parts (take place text) (drop (place + 1) text)) (position is_point text)

abbrev pub nothing_but : ℕ → Option ℕ
nothing_but n = if n == 0 then Some 0 else None

-- the same with a sign before it, behind which only 0 is a duration
abbrev pub signed_fraction : List ℕ → Option ℕ
signed_fraction [] = None
signed_fraction (b ∷ bs) = if b == minus then option_and_then nothing_but (fraction bs) else fraction (b ∷ bs)

-- the milliseconds of that many seconds
abbrev pub seconds : Token → Option ℕ
seconds (token.Int (pos n)) = within_longest (n * 1000)
seconds _ = None

-- the milliseconds that a value stands for
abbrev pub milliseconds_of : Given → Option ℕ
milliseconds_of (given.Token t) = seconds t
milliseconds_of (given.Fraction text) = signed_fraction text

-- ---- one argument

abbrev pub is_duration : Sort → Bool
is_duration sort.Duration = true
is_duration _ = false

-- a token, where it fits and is of the sort; a fraction is none
abbrev pub plain_token : Sort → Given → Option Token
plain_token s (given.Token t) = if has_fit t && is_of s t then Some t else None
plain_token s (given.Fraction text) = None

-- the argument that a value makes for a parameter of that sort
abbrev pub token_given : Sort → Given → Option Token
token_given s v = if is_duration s then option_map (λ n. token.Int (pos n)) (milliseconds_of v) else plain_token s v

abbrev pub is_fraction : Given → Bool
is_fraction (given.Token t) = false
is_fraction (given.Fraction text) = true

-- the sort of the parameter of that name
abbrev pub sort_named : List Parameter → List ℕ → Option Sort
sort_named [] name = None
sort_named (p ∷ ps) name = if bytes_eq name p.name then Some p.sort else sort_named ps name

-- what is wrong with a value for a parameter of that sort: a fraction where none may stand, or a value that makes no argument
abbrev pub fault_for : ℕ → Given → Sort → Option ArgFault
fault_for place v s =
    if is_some (token_given s v) then None
    else if is_fraction v && (if is_duration s then false else true) then Some (fault.Fraction place)
    else Some (fault.BadArg place)

abbrev pub fault_named : ℕ → Given → Option Sort → Option ArgFault
fault_named place v None = Some (fault.BadArg place)
fault_named place v (Some s) = fault_for place v s

-- what is wrong with the argument at a place: there is no such parameter, or what is wrong with its value
abbrev pub fault_at : List Parameter → ℕ → Argument → Option ArgFault
fault_at ps place a = fault_named place a.value (sort_named ps a.name)

-- ---- all arguments

-- the first fault in written order, for the arguments from a place on
abbrev pub faults_from : List Parameter → ℕ → List Argument → Option ArgFault
faults_from ps place [] = None
faults_from ps place (a ∷ given) = option_or (fault_at ps place a) (faults_from ps (suc place) given)

-- the value of the last argument of that name
abbrev pub last_given : List ℕ → List Argument → Option Given
last_given name [] = None
last_given name (a ∷ given) = option_or (last_given name given) (if bytes_eq a.name name then Some a.value else None)

abbrev pub is_required : Preset → Bool
is_required preset.Required = true
is_required _ = false

-- a parameter whose argument is required and not there
abbrev pub is_lacking : List Argument → Parameter → Bool
is_lacking given p = is_required p.preset && is_none (last_given p.name given)

-- what is wrong: the first fault in written order, else that an argument is missing
abbrev pub fault_of : List Parameter → List Argument → Option ArgFault
fault_of ps given = option_or (faults_from ps 0 given) (if list_any (is_lacking given) ps then Some fault.Missing else None)

-- what stands where an argument is not given
abbrev pub preset_token : Preset → Token
preset_token preset.Required = token.Null
preset_token preset.Null = token.Null
preset_token preset.False = token.Bool false
preset_token (preset.Int z) = token.Int z
preset_token preset.EmptyText = token.Text []

abbrev pub given_or_preset : Parameter → Option Given → Token
given_or_preset p None = preset_token p.preset
given_or_preset p (Some v) = unwrap_or (token_given p.sort v) token.Null

abbrev pub argument_of : List Argument → Parameter → Token
argument_of given p = given_or_preset p (last_given p.name given)

-- the arguments, in the order of the parameters
abbrev pub arguments_of : List Parameter → List Argument → List Token
arguments_of ps given = map (argument_of given) ps
