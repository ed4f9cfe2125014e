-- Prints that were sorted as the program keeps them stand in the order of their paths.
use Rattle.std.proofs.Common.{◌≡◌, ℕ, ◌+◌, ◌<◌, List, [], ◌∷◌, map, length, IsPermutation, IsSorted, String, subst, arith}
use Rattle.std.specs.declared.alloc.Global.{Global}
use Rattle.std.proofs.lemmas.List.{get_or-map, length-map}
use Rattle.std.proofs.lemmas.List.Sorted.{IsPermutation-map}
use Rattle.cv_kinds.specs.declared.network.ActorSpec.{ActorSpec}
use Rattle.cv_solo.specs.Keyed.{keyed}
use Rattle.cv_solo.specs.PrintedText.{prints_from, print_cmp, InPathOrder}

-- a list sorted by a key's order has keys in that order
sorted_keys : (xs : List (String Global × ℕ)) → IsSorted (λ x y. print_cmp (keyed x) (keyed y)) xs → IsSorted print_cmp (map keyed xs)
sorted_keys [] sorted k d low high = absurd (omega arith)
sorted_keys (x ∷ xs) sorted k d low high =
    let within : k + 1 < length (x ∷ xs) = omega (arith, length-map (x ∷ xs) keyed) in
    rw (get_or-map keyed (x ∷ xs) (k + 1) x d within, get_or-map keyed (x ∷ xs) k x d (omega arith)) (sorted k x low within)

pub in_path_order : (actors : List ActorSpec) (found order : List (String Global × ℕ)) → map keyed found ≡ prints_from 0 actors → IsPermutation found order → IsSorted (λ x y. print_cmp (keyed x) (keyed y)) order → InPathOrder actors (map keyed order)
in_path_order actors found order all moved sorted = record {
  all = subst (λ ps. IsPermutation ps (map keyed order)) all (IsPermutation-map keyed found order moved);
  sorted = sorted_keys order sorted;
}
