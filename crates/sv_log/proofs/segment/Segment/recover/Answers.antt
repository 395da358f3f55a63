-- What is proved by hand of `recover`.
use Rattle.std.proofs.Common.{rules, ◌≡◌, ◌≤◌, ◌-◌, [], ℕ, List, Some, length, take, string_bytes, refl, subst}
use Rattle.sv_log.specs.Pictures.{seen}
use Rattle.sv_log.specs.Texts.{whole}
use Rattle.sv_log.specs.Logs.{LogStands}
use Rattle.sv_log.proofs.Mended.{quiet_mends}
use Rattle.sv_log.proofs.Started.{recovered}
use Rattle.sv_log.proofs.segment.Segment.recover.Goals as goal

pub returns-in-Ok-clear_behind-clause-open : goal.returns-in-Ok-clear_behind-clause-open
returns-in-Ok-clear_behind-clause-open g c = λ h.
    let disk = g.F.Folder.disk in
    let bytes = c.in-Ok.bytes.items in
    let end = c.text_length-end.result in
    let folder = c.clear_behind.new.folder in
    let found = seen (disk c.args.folder) (string_bytes c.args.name) in
    let is : found ≡ Some bytes =
    subst (λ (n : List ℕ). seen (disk c.args.folder) n ≡ Some bytes) c.as_str.ensures.value (c.in-Ok.ensures.bytes (c.clear_behind.ensures.honest h)) in
    let stands : LogStands (disk folder) (string_bytes c.args.name) (whole bytes) [] (length bytes - end) =
    subst (λ (b : List ℕ). LogStands (disk folder) (string_bytes c.args.name) (whole b) [] (length b - end)) c.deref-2.ensures.value
    (subst (λ (n : List ℕ). LogStands (disk folder) n (whole c.deref-2.result.now) [] (length c.deref-2.result.now - end)) c.as_str-2.ensures.value (c.in-Ok-clear_behind.ensures.stands h)) in
    let size : c.len.result ≡ length bytes = search rules in
    recovered disk record {
      folder = folder;
      name = c.args.name;
      synced = end;
      length = end;
      size = c.len.result;
      spare = c.args.spare;
    } bytes found end is
    (subst (λ (b : List ℕ). take end b ≡ whole b) c.deref.ensures.value c.text_length-end.ensures.text)
    (subst (λ (b : List ℕ). end ≤ length b) c.deref.ensures.value c.text_length-end.ensures.within)
    stands refl refl size

pub returns-in-Err-clause-any_moment_err : goal.returns-in-Err-clause-any_moment_err
returns-in-Err-clause-any_moment_err g c = λ h.
    quiet_mends (g.F.Folder.disk c.args.folder) (g.F.Folder.disk c.read_file.new.folder) (string_bytes c.args.name) (c.requires.rest (c.read_file.ensures.honest h)) c.read_file.ensures.same
