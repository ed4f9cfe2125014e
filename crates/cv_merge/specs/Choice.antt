-- Which of several journals has the earliest entry left.
use Rattle.std.specs.Prelude.{ℕ, suc, Bool, true, false, nat_lt, List, [], ◌∷◌, Option, Some, None}
use Rattle.cv_protocol.specs.declared.event.Entry.{Entry}
use Rattle.cv_merge.specs.Lanes.{Lane}

abbrev pub first_stamp : List Entry → Option ℕ
first_stamp [] = None
first_stamp (e ∷ es) = Some e.stamp

-- the place of a journal, and the stamp of its first entry
abbrev pub earlier_if : Bool → ℕ × ℕ → ℕ × ℕ → ℕ × ℕ
earlier_if true new best = new
earlier_if false new best = best

-- the earlier one of the best so far and the next; of equal stamps the one so far
abbrev pub better : Option (ℕ × ℕ) → ℕ → Option ℕ → Option (ℕ × ℕ)
better best place None = best
better None place (Some t) = Some (place, t)
better (Some b) place (Some t) = Some (earlier_if (nat_lt t b.1) (place, t) b)

-- the best of those so far and of these, from place `place` on
abbrev pub least_from : Option (ℕ × ℕ) → ℕ → List Lane → Option (ℕ × ℕ)
least_from best place [] = best
least_from best place (l ∷ ls) = least_from (better best place (first_stamp l.entries)) (suc place) ls
