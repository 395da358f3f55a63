-- What is answered of pending actions, with what the references in it point to.
use Rattle.std.specs.Prelude.{option_map}
use Rattle.sv_pending.specs.Pending.{PendingAction, Overlaid, Unwritten, Unknown, KeptValues}
use Rattle.sv_pending.specs.declared.overlay.Overlay.{Overlay}
use Rattle.sv_pending.specs.declared.overlay.Overlay.TheVariants as overlays
use Rattle.sv_pending.specs.declared.overlay.PendingItem.{PendingItem}

abbrev pub overlay_seen : Overlay → Overlaid
overlay_seen overlays.Unwritten = Unwritten
overlay_seen overlays.Unknown = Unknown
overlay_seen (overlays.Kept v) = KeptValues v.now

abbrev pub item_seen : PendingItem → PendingAction
item_seen item = record { seq = item.seq; action = item.action.now; kept = option_map (λ values. values.now) item.kept }
