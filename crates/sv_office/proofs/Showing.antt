-- The key that a connection has is the one that was heard of it.
use Rattle.std.proofs.Common.{◌≡◌, ◌⊎◌, inl, inr, ℕ, List, Option, Some, sym, ◌∙◌}
use Rattle.sv_peer.specs.View.{PeerView, Nexts}
use Rattle.sv_peer.specs.declared.heard.Heard.TheVariants as heard
use Rattle.sv_office.specs.Turns.{HasHeardKey}

pub heard_key : (peer after : PeerView) {before key : Option (List ℕ)} (digest : List ℕ) → Nexts peer (heard.Hello digest) after
    → (key ≡ before) ⊎ (key ≡ Some digest) → HasHeardKey peer before key
heard_key peer after digest next (inl same) = inl same
heard_key peer after digest next (inr is) = inr (digest, after, next, is)

-- It has that key still.
pub heard_still : (peer : PeerView) {before key now : Option (List ℕ)} → now ≡ key → HasHeardKey peer before key → HasHeardKey peer before now
heard_still peer same (inl kept) = inl (same ∙ kept)
heard_still peer same (inr (digest, after, next, is)) = inr (digest, after, next, same ∙ is)
