-- A folder of which nothing was asked.
use Rattle.std.proofs.Common.{◌≡◌, List, [], refl, sym, ap, subst}
use Rattle.sv_log.specs.Pictures.{Picture, Made, Disk, seen, seen_after}
use Rattle.sv_log.specs.Crashes.{Same, CrashLeaves, has_failed, has_renamed, is_synced}
use Rattle.sv_log.specs.Rests.{IsAtRest}

pub fresh_rest : (disk : Disk) → disk.past ≡ [] → IsAtRest disk
fresh_rest disk is = record {
  only = λ c left. subst (λ (past : List Made). CrashLeaves disk.start past c → Same c (seen_after disk.start past)) (sym is) (λ same. same) left;
  calm = ap has_failed is;
  names = ap has_renamed is;
  synced = λ n. ap (λ (past : List Made). is_synced past n) is;
}
