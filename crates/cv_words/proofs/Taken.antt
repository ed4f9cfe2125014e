-- Items read one after the other.
use Rattle.std.proofs.Common.{◌≡◌, ℕ, List, [], ◌∷◌, ◌++◌, Some, None, option_map, refl, sym, ap, append_assoc}
use Rattle.std.specs.declared.option.Option.{Option}
use Rattle.cv_words.specs.declared.items.LinkItem.{LinkItem}
use Rattle.cv_words.specs.Items.{item_of, items_of}

joined : (done : List LinkItem) (item : LinkItem) (o : Option (List LinkItem)) → option_map (λ rest. done ++ rest) (option_map (λ items. item ∷ items) o) ≡ option_map (λ rest. (done ++ item ∷ []) ++ rest) o
joined done item None = refl
joined done item (Some items) = ap (λ (xs : List LinkItem). Some xs) (sym (append_assoc done (item ∷ []) items))

-- one word more that says an item
pub one_taken : (done : List LinkItem) (word : List ℕ) (words : List (List ℕ)) (item : LinkItem) → item_of word ≡ Some item → option_map (λ rest. done ++ rest) (items_of (word ∷ words)) ≡ option_map (λ rest. (done ++ item ∷ []) ++ rest) (items_of words)
one_taken done word words item says = rw says (joined done item (items_of words))

-- a word that says none
pub none_taken : (done : List LinkItem) (word : List ℕ) (words : List (List ℕ)) → item_of word ≡ None → option_map (λ rest. done ++ rest) (items_of (word ∷ words)) ≡ None
none_taken done word words says = rw says refl
