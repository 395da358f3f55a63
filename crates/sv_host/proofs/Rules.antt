-- The rules of a world that was opened are those of its file, within the limits.
use Rattle.std.proofs.Common.{◌≡◌, ℕ, ◌≤◌, List, Option, refl, sym, ap, ◌∙◌, subst}
use Rattle.sv_world.specs.declared.rights.Right.{Right}
use Rattle.sv_world.specs.declared.world.World.{World}
use Rattle.sv_world.specs.Limits.{most_bound}
use Rattle.sv_world.specs.Worlds.{IsGoodWorld}
use Rattle.sv_journal.specs.Laws.{AreWithinLimits}
use Rattle.sv_journal.specs.Living.{living_rules}
use Rattle.sv_living.specs.declared.stewards.Stewards.{Stewards}
use Rattle.sv_living.specs.World.{WorldView}
use Rattle.sv_log.specs.Pictures.{Disk}
use Rattle.sv_keeper.specs.Opened.{AreEnded, IsOpened, start_of}
use Rattle.sv_keeper.specs.Views.{KeeperView}
use Rattle.sv_keeper.specs.Walks.{TakesLines}
use Rattle.sv_worldfile.specs.declared.world_file.WorldFile.{WorldFile}
use Rattle.sv_worldfile.specs.Limits.{IsGoodWorldFile}
use Rattle.sv_host.specs.Causes.{start_in, stewards_in}

taken_rules : {v w : WorldView} {text rest : List ℕ} → TakesLines v w text rest → w.rules ≡ v.rules
taken_rules TakesLines.none = refl
taken_rules (TakesLines.some first more) = taken_rules more ∙ ap (λ (x : WorldView). x.rules) first.world

ended_rules : {v w : WorldView} → AreEnded v w → w.rules ≡ v.rules
ended_rules (AreEnded.none e) = refl
ended_rules (AreEnded.some e more) = ended_rules more

module _ {F : Type 0} (disk : F → Disk) (is_honest : F → Type 0) where
  opened_rules : (left : Disk) (world : List ℕ) (start : WorldView) (keeper : KeeperView F) → IsOpened disk is_honest left world start keeper
      → keeper.world.rules ≡ start.rules
  opened_rules left world start keeper is = ended_rules is.ended ∙ taken_rules is.taken

  pub within_limits : (left : Disk) (text : List ℕ) (stewards : Stewards) (world : World) (bound : ℕ) (reach : Option ℕ) (rights : Option (List Right)) (keeper : KeeperView F)
      → IsGoodWorld world → bound ≤ most_bound → IsOpened disk is_honest left text (start_of (living_rules world bound reach rights) stewards) keeper
      → AreWithinLimits keeper.world.rules
  within_limits left text stewards world bound reach rights keeper good few is =
      subst AreWithinLimits (sym (opened_rules left text (start_of (living_rules world bound reach rights) stewards) keeper is)) (record {
        some_attrs = good.shape.some_attrs;
        few_attrs = good.shape.few_attrs;
        objects = good.objects;
        attrs = good.attrs;
        bound = few;
      })

  pub limits_in : (left : Disk) (bytes : List ℕ) (file : WorldFile) (keeper : KeeperView F) → IsGoodWorldFile file
      → IsOpened disk is_honest left bytes (start_in file) keeper → AreWithinLimits keeper.world.rules
  limits_in left bytes file keeper good is =
      within_limits left bytes (stewards_in file) file.world file.bound file.reach file.rights keeper good.world good.bound is
