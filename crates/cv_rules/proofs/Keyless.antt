-- A text without a dot is no key.
use Rattle.std.proofs.Common.{◌≡◌, ℕ, ◌+◌, ◌≤◌, Bool, true, false, ◌&&◌, List, [], length, drop, refl, arith}
use Rattle.std.proofs.Math.ListN.{drop_of_length-le}
use Rattle.std.specs.List.{position_or_len}
use Rattle.cv_rules.specs.Keys.{is_dot, is_key}

no_both : (b : Bool) → false ≡ (b && false)
no_both true = refl
no_both false = refl

pub no_dot : (key : List ℕ) → position_or_len is_dot key ≡ length key → false ≡ is_key key
no_dot key e =
    let short : length key ≤ position_or_len is_dot key + 1 = omega arith in
    let nothing : drop (position_or_len is_dot key + 1) key ≡ [] = drop_of_length-le key short in
    rw nothing (no_both _)
