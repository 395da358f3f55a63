-- A connection that changed, and was told nothing more.
use Rattle.std.proofs.Common.{◌≡◌, ◌≢◌, false, sym, ◌∙◌, subst}
use Rattle.sv_living.specs.World.{WorldView}
use Rattle.sv_office.specs.Telling.{IsServedGuest, is_gone}
use Rattle.sv_office.specs.declared.guest.Guest.{Guest}
use Rattle.sv_office.specs.declared.guest.Standing.{Standing}
use Rattle.sv_office.specs.declared.guest.Standing.TheVariants as standing
use Rattle.sv_office.proofs.Served.{served_as}

-- It stands where it stood.
pub served_still : (v : WorldView) (old new : Guest) → new.session ≡ old.session → new.peer.told ≡ old.peer.told → new.standing ≡ old.standing
    → IsServedGuest v old → IsServedGuest v new
served_still v old new session told same = served_as v old new session told
    (λ here. subst (λ (x : Standing). is_gone x ≡ false) same here)
    (λ shut is. shut (sym same ∙ is))

gone_is : is_gone standing.Gone ≡ false → ⊥
gone_is e = cc

gone_shut : standing.Gone ≢ standing.Open
gone_shut e = cc

-- It left.
pub served_left : (v : WorldView) (old new : Guest) → new.session ≡ old.session → new.peer.told ≡ old.peer.told → new.standing ≡ standing.Gone
    → IsServedGuest v old → IsServedGuest v new
served_left v old new session told gone = served_as v old new session told
    (λ here. absurd (gone_is (subst (λ (x : Standing). is_gone x ≡ false) gone here)))
    (λ shut is. gone_shut (sym gone ∙ is))
