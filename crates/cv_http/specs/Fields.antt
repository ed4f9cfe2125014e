-- What the fields of a head say of the body and of the connection, as pairs of a name and a trimmed value.
-- Names and words are the same in any case of letters (RFC 9110, sections 5.1, 7.6.1 and 8.4; RFC 9112, section 6).
use Rattle.std.specs.Prelude.{ℕ, Bool, not, ◌&&◌, ◌||◌, List, [], ◌∷◌, length, Result, Ok, Err, if◌then◌else◌, ◌==◌, nat_lt, codes}
use Rattle.std.specs.List.{list_all, list_any}
use Rattle.std.specs.Char.{is_ascii_digit}
use Rattle.std.specs.Str.Parse.{digits_value}
use Rattle.http1.specs.Fields.{Header, is_named, elements_named, values_named, has_option}
use Rattle.http1.specs.Text.{eq_ignore_case}
use Rattle.cv_http.specs.declared.fault.HttpFault.{HttpFault}
use Rattle.cv_http.specs.declared.fault.HttpFault.TheVariants.{BadLength, BodyTooLong, Coding}
use Rattle.cv_http.specs.declared.length.TheConstants.{MOST_BODY, MOST_DIGITS}

-- the field says that the body is coded: a transfer coding of any kind, or a content coding but the identity
abbrev pub is_coding : Header → Bool
is_coding h =
    is_named (codes "transfer-encoding") h
    || (is_named (codes "content-encoding") h && not (eq_ignore_case h.1 (codes "identity")))

-- 1 to 20 digits
abbrev pub is_length : List ℕ → Bool
is_length value = nat_lt 0 (length value) && (not (nat_lt MOST_DIGITS (length value)) && list_all is_ascii_digit value)

-- the length that the value of a length field tells
unfoldable pub number_of : List ℕ → Result ℕ HttpFault
number_of value =
    if is_length value then
    (if nat_lt MOST_BODY (digits_value 10 value) then Err BodyTooLong else Ok (digits_value 10 value))
    else Err BadLength

-- no length field means no body, and a second one is refused
unfoldable pub length_of : List (List ℕ) → Result ℕ HttpFault
length_of [] = Ok 0
length_of (value ∷ []) = number_of value
length_of (value ∷ second ∷ values) = Err BadLength

-- the length of the body, or the fault of the fields: a coding counts before a faulty length
unfoldable pub body_of : List Header → Result ℕ HttpFault
body_of fields =
    if list_any is_coding fields then Err Coding else length_of (values_named (codes "content-length") fields)

-- the connection is to be closed behind the response: version 1.0, or `close` among the options of a Connection field
unfoldable pub closes : ℕ → List Header → Bool
closes minor fields = (minor == 0) || has_option (codes "close") (elements_named (codes "connection") fields)
