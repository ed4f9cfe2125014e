use Rattle.std.proofs.Common.{◌≡◌, map, take}
use Rattle.std.specs.List.{All}
use Rattle.cv_frame.proofs.listing.all_of.Given as goal

-- the values that have the trees passed so far
abbrev pub invariant-loop-item : goal.invariant-loop-item
invariant-loop-item g l = All g.P.Part.Travels l.found.items × (take l.item-index l.item-items ≡ map g.P.Part.shape l.found.items)
