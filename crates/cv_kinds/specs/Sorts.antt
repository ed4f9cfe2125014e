-- What tokens are of a sort, and when a state has the slots of its kind.
use Rattle.std.specs.Prelude.{ℕ, ℤ, pos, Bool, true, false, not, ◌&&◌, ◌||◌, nat_le, int_lt, List, [], ◌∷◌, length, Option, Some, is_some, codes}
use Rattle.std.specs.Str.{bytes_eq}
use Rattle.cv_token.specs.declared.token.Token.{Token}
use Rattle.cv_token.specs.declared.token.Token.TheVariants as token
use Rattle.cv_behave.specs.Values.{has_fit, is_int, item_of, list_of}
use Rattle.cv_kinds.specs.declared.kind.Kind.{Kind}
use Rattle.cv_kinds.specs.declared.table.Slot.{Slot}
use Rattle.cv_kinds.specs.declared.table.Slot.TheVariants as slot
use Rattle.cv_kinds.specs.declared.table.Sort.{Sort}
use Rattle.cv_kinds.specs.declared.table.Sort.TheVariants as sort
use Rattle.cv_kinds.specs.Table.{Parameter, line_of}

-- ---- sorts

abbrev pub is_truth : Token → Bool
is_truth (token.Bool b) = true
is_truth _ = false

abbrev pub is_text : Token → Bool
is_text (token.Text s) = true
is_text _ = false

abbrev pub is_null : Token → Bool
is_null token.Null = true
is_null _ = false

abbrev pub is_list : Token → Bool
is_list t = is_some (list_of t)

-- a number that is not below the first, and not above the second
abbrev pub is_at_least : ℤ → Token → Bool
is_at_least low (token.Int z) = not (int_lt z low)
is_at_least low _ = false

abbrev pub is_within : ℤ → ℤ → Token → Bool
is_within low high (token.Int z) = not (int_lt z low) && not (int_lt high z)
is_within low high _ = false

abbrev pub is_operator : Token → Bool
is_operator (token.Text s) =
    bytes_eq s (codes "=") || bytes_eq s (codes "!=") || bytes_eq s (codes "<") || bytes_eq s (codes "<=") || bytes_eq s (codes ">") || bytes_eq s (codes ">=")
is_operator _ = false

-- the most milliseconds that a duration has
abbrev pub longest : ℕ
longest = 2147483647

abbrev pub is_of : Sort → Token → Bool
is_of sort.Any t = true
is_of sort.Truth t = is_truth t
is_of sort.Int t = is_int t
is_of (sort.AtLeast low) t = is_at_least low t
is_of (sort.Within low high) t = is_within low high t
is_of sort.Duration t = is_within (pos 0) (pos longest) t
is_of sort.Text t = is_text t
is_of sort.List t = is_list t
is_of sort.Operator t = is_operator t
is_of sort.TextOrInt t = is_text t || is_int t

-- ---- arguments

-- each argument fits, and is of its parameter's sort
abbrev pub are_arguments : List Parameter → List Token → Bool
are_arguments [] [] = true
are_arguments (p ∷ ps) (t ∷ ts) = has_fit t && (is_of p.sort t && are_arguments ps ts)
are_arguments _ _ = false

-- the arguments are some of the kind's row
abbrev pub are_args : Kind → List Token → Bool
are_args k args = are_arguments (line_of k).params args

-- ---- states

-- a place in a list, or its length
abbrev pub is_place : Token → Option (List Token) → Bool
is_place (token.Int (pos n)) (Some xs) = nat_le n (length xs)
is_place _ _ = false

-- a number from 0 to one less than another
abbrev pub is_round : Token → Token → Bool
is_round (token.Int (pos c)) (token.Int n) = int_lt (pos c) n
is_round _ _ = false

abbrev pub is_slot : List Token → Slot → Token → Bool
is_slot args (slot.Plain s) t = is_of s t
is_slot args slot.Next t = is_int t || is_null t
is_slot args slot.Place t = is_place t (list_of (item_of args 0))
is_slot args slot.Round t = is_round t (item_of args 0)

-- each slot fits, and is what the kind's is on the arguments
abbrev pub are_slots : List Token → List Slot → List Token → Bool
are_slots args [] [] = true
are_slots args (s ∷ ss) (t ∷ ts) = has_fit t && (is_slot args s t && are_slots args ss ts)
are_slots args _ _ = false

abbrev pub is_state : Kind → List Token → List Token → Bool
is_state k args state = are_slots args (line_of k).slots state
