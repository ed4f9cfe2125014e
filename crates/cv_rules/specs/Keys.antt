-- The keys of attributes: GROUP.FIELD.
use Rattle.std.specs.Prelude.{ℕ, ◌==◌, Bool, false, ◌&&◌, nat_lt, List, [], ◌∷◌, length}
use Rattle.std.specs.List.{list_all, before_first, after_first}
use Rattle.cv_token.specs.declared.pairs.Pair.{Pair}
use Rattle.cv_lex.specs.Bytes.{is_name_start, is_name_byte}

-- a letter or `_`, then letters, digits and `_`, at most 64 bytes in all
abbrev pub is_name : List ℕ → Bool
is_name [] = false
is_name (b ∷ bytes) = is_name_start b && list_all is_name_byte bytes && nat_lt (length bytes) 64

abbrev pub is_dot : ℕ → Bool
is_dot b = b == 46

-- two names with a dot between them
abbrev pub is_key : List ℕ → Bool
is_key key = is_name (before_first is_dot key) && is_name (after_first is_dot key)

abbrev pub are_keys : List (Pair (List ℕ)) → Bool
are_keys attrs = list_all (λ a. is_key a.key) attrs
