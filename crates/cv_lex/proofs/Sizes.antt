-- What stands at the front of a text by its shape, with its size, whatever the limits.
use Rattle.std.proofs.Common.{ℕ, suc, ◌+◌, false, cond, eqb, Option, Some, None, List, [], ◌∷◌, get_or, drop}
use Rattle.std.specs.Prelude.{nat_eq}
use Rattle.std.specs.List.{prefix_len, starts_with}
use Rattle.cv_lex.specs.declared.lexeme.Sort.{Sort}
use Rattle.cv_lex.specs.declared.lexeme.Sort.TheVariants as sorts
use Rattle.cv_lex.specs.Bytes.{is_blank_byte, is_name_start, is_name_byte, is_digit, is_mark_byte, is_in_line}
use Rattle.cv_lex.specs.Fronts.{fraction_len}
use Rattle.cv_lex.specs.Spans.{closing, place_of}

-- a thing and its size
abbrev pub Size : Type 0
Size = Option (Option Sort × ℕ)

abbrev pub number_size : List ℕ → Size
number_size rest =
    let more = prefix_len is_digit rest in
    let fraction = fraction_len (drop more rest) in
    cond (eqb fraction 0) (Some (Some sorts.Int, suc more)) (Some (Some sorts.Fraction, suc (more + fraction)))

abbrev pub minus_size : List ℕ → Size
minus_size rest = cond (is_digit (get_or rest 0 0)) (number_size rest) (cond (eqb (get_or rest 0 0) 62) (Some (Some sorts.Mark, 2)) None)

abbrev pub closed_size : ℕ → Option ℕ → Size
closed_size more None = None
closed_size more (Some place) = Some (None, place + more)

abbrev pub slash_size : List ℕ → Size
slash_size rest =
    cond (eqb (get_or rest 0 0) 47) (Some (None, prefix_len is_in_line (drop 1 rest) + 2))
    (cond (eqb (get_or rest 0 0) 42) (closed_size 4 (place_of 0 (42 ∷ 47 ∷ []) (drop 1 rest))) None)

abbrev pub text_size : Option ℕ → Size
text_size None = None
text_size (Some place) = Some (Some sorts.Text, place + 2)

abbrev pub quote_size : ℕ → List ℕ → Size
quote_size b rest =
    cond (starts_with nat_eq (b ∷ rest) (34 ∷ 34 ∷ 34 ∷ [])) (closed_size 6 (place_of 0 (34 ∷ 34 ∷ 34 ∷ []) (drop 2 rest)))
    (text_size (closing 0 false rest))

-- what a byte and the rest begin with
abbrev pub size_of : ℕ → List ℕ → Size
size_of b rest =
    cond (is_blank_byte b) (Some (None, 1))
    (cond (is_name_start b) (Some (Some sorts.Name, suc (prefix_len is_name_byte rest)))
    (cond (is_digit b) (number_size rest)
    (cond (eqb b 45) (minus_size rest)
    (cond (eqb b 34) (quote_size b rest)
    (cond (eqb b 47) (slash_size rest)
    (cond (is_mark_byte b) (Some (Some sorts.Mark, 1)) None))))))
