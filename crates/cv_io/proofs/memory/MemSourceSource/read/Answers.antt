use Rattle.std.proofs.Common.{◌≡◌, List, ℕ, ◌++◌, ◌+◌, ◌-◌, length, take, drop, ap, sym, ◌∙◌, arith}
use Rattle.std.proofs.lemmas.Bool.Decides.{nat_tests}
use Rattle.std.proofs.lemmas.List.{drop-drop, take-append-drop, take_rest}
use Rattle.cv_io.proofs.memory.MemSourceSource.read.Goals as goal

-- what is left is the piece that is given and the rest
piece_and_rest : (items : List ℕ) (at n : ℕ) (piece : List ℕ) → piece ≡ take n (take (length items - at) (drop at items)) → drop at items ≡ piece ++ drop (at + n) items
piece_and_rest items at n piece e =
    let front : take n (drop at items) ≡ piece = sym (e ∙ ap (take n) (take_rest items at)) in
    sym (take-append-drop n (drop at items)) ∙ ap (λ xs. xs ++ drop n (drop at items)) front ∙ ap (λ xs. piece ++ xs) (drop-drop n at items)

pub returns-clause-bytes : goal.returns-clause-bytes
returns-clause-bytes c =
    let given = c.copy_front-count.ensures in
    let items = c.deref-2.ensures.value in
    (grind (arith, nat_tests), omega (arith, given.count), ap (λ m. m.bytes) (sym c.self.view_is) ∙ piece_and_rest c.self.inside.bytes.items c.self.inside.at c.copy_front-count.result _ (rw items at given.front))
