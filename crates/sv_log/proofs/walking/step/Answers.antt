-- What is proved by hand of `step`.
use Rattle.std.proofs.Common.{rules, ◌≡◌, ◌∙◌, ℕ, ◌+◌, ◌++◌, ◌∷◌, [], List, Option, Some, None, map, string_bytes, refl, sym, ap, subst}
use Rattle.sv_log.specs.Pictures.{seen}
use Rattle.sv_log.specs.Texts.{whole}
use Rattle.sv_log.specs.Names.{segment_name}
use Rattle.sv_log.specs.declared.names.FileKind.TheVariants as file
use Rattle.sv_log.specs.Chains.{lines}
use Rattle.sv_log.specs.Readings.{IsFirstNumber}
use Rattle.sv_log.specs.Walks.{LeadsTo}
use Rattle.sv_log.proofs.Walked.{way_more, arrived, just_why}
use Rattle.sv_log.proofs.Refused.{chain_leads}
use Rattle.sv_log.proofs.walking.step.Goals as goal

pub returns-in-None-clause-way : goal.returns-in-None-clause-way
returns-in-None-clause-way g c = λ h first way.
    let m = c.read_file.ensures.honest h in
    let p = seen (g.F.Folder.disk c.args.folder.now) in
    let names = map string_bytes c.args.names.now in
    let old = c.args.walk.now in
    let new = c.add_last.new.walk in
    let bytes = c.deref.result.now in
    let none = subst (IsFirstNumber file.Segment names (old.number + 1)) c.in-None.is c.first_from.ensures in
    let stored : p (segment_name old.number) ≡ Some bytes =
    ap p (sym (c.as_str.ensures.value ∙ c.in-Ok.ensures)) ∙ c.in-Ok-read_file.ensures.bytes h ∙ ap (λ (b : List ℕ). Some b) (sym c.deref.ensures.value) in
    let closed : new.closed ≡ old.closed = search rules in
    let number : new.number ≡ old.number = search rules in
    let text : new.text.items ≡ old.text.items ++ whole bytes = search rules in
    let next : new.next ≡ old.number + lines (whole bytes) = search rules in
    arrived p names (c.requires.listed m) first old new way bytes stored none closed number text next

pub returns-in-Some-closed_fault-clause-refused : goal.returns-in-Some-closed_fault-clause-refused
returns-in-Some-closed_fault-clause-refused g c = λ h first way.
    let m = c.read_file.ensures.honest h in
    let p = seen (g.F.Folder.disk c.args.folder.now) in
    let names = map string_bytes c.args.names.now in
    let old = c.args.walk.now in
    let bytes = c.deref-in-Some.result.now in
    let next = subst (IsFirstNumber file.Segment names (old.number + 1)) c.in-Some.is c.first_from.ensures in
    let stored : p (segment_name old.number) ≡ Some bytes =
    ap p (sym (c.as_str.ensures.value ∙ c.in-Ok.ensures)) ∙ c.in-Ok-read_file.ensures.bytes h ∙ ap (λ (b : List ℕ). Some b) (sym c.deref-in-Some.ensures.value) in
    just_why c.in-Some-closed_fault.refusal.cause
    (chain_leads p names (c.requires.listed m) old.number bytes stored c.in-Some.following next first old way refl c.in-Some-closed_fault.ensures.leads)

pub returns-clause-way : goal.returns-clause-way
returns-clause-way g c = λ h first way.
    let m = c.read_file.ensures.honest h in
    let p = seen (g.F.Folder.disk c.args.folder.now) in
    let names = map string_bytes c.args.names.now in
    let old = c.args.walk.now in
    let new = c.add_closed.new.walk in
    let bytes = c.in-Ok-read_file.bytes.items in
    let following = c.in-Some.following in
    let next = subst (IsFirstNumber file.Segment names (old.number + 1)) c.in-Some.is c.first_from.ensures in
    let stored : p (segment_name old.number) ≡ Some bytes = ap p (sym (c.as_str.ensures.value ∙ c.in-Ok.ensures)) ∙ c.in-Ok-read_file.ensures.bytes h in
    let leads : LeadsTo old.number bytes following = subst (λ (b : List ℕ). LeadsTo old.number b following) c.deref-in-Some.ensures.value c.in_default-closed_fault.ensures.leads in
    let closed : new.closed.items ≡ old.closed.items ++ old.number ∷ [] = search rules in
    let number : new.number ≡ following = search rules in
    let added : new.text.items ≡ old.text.items ++ c.deref-in-Some-2.result.now = search rules in
    let text : new.text.items ≡ old.text.items ++ bytes = added ∙ ap (λ (b : List ℕ). old.text.items ++ b) c.deref-in-Some-2.ensures.value in
    way_more p names (c.requires.listed m) first old new way bytes stored following next leads closed text number
