use Rattle.std.proofs.Common.{◌≡◌, true, string_bytes, sym, ap}
use Rattle.std.specs.BTreeMap.{get_by_text}
use Rattle.std.specs.Str.{bytes_eq}
use Rattle.std.proofs.lemmas.Slice.Eq.{bytes_eq-Decides}
use Rattle.std.proofs.lemmas.Map.Text.{btree_map_updates_text}
use Rattle.cv_expand.proofs.Lookups.{added, none_from}
use Rattle.cv_expand.proofs.named.note_name.Goals as goal

pub returns : goal.returns
returns c = λ n.
    let same = λ (e : bytes_eq c.args.name.now n ≡ true). ap (get_by_text c.args.places) (sym ((bytes_eq-Decides c.args.name.now n).0 e)) in
    added _ (get_by_text c.args.places c.args.name.now) _ (bytes_eq c.args.name.now n) c.args.place same
    (none_from _ _ c.contains_key.ensures c.if-contains_key.false)
    (let u = btree_map_updates_text (string_bytes c.in_ok-from_str.field-0) c.args.places c.insert.new.self _ c.in_ok-insert.ensures.updates n in
    rw c.in_ok-from_str.ensures.ok at u)
