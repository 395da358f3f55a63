-- There is to be no steward.
use Rattle.std.proofs.Common.{◌≡◌, ℕ, List, Ok, sym, ◌∙◌, subst}
use Rattle.sv_worldfile.specs.WorldFiles.{world_file_of}
use Rattle.sv_host.proofs.opening.prepared_of.Goals as goal

pub returns-then-not-options-clause-why : goal.returns-then-not-options-clause-why
returns-then-not-options-clause-why g c = record {
  file = c.in_ok-file.file;
  bytes = c.in_ok-bytes.bytes.items;
  read = record { front = c.in_ok-bytes.ensures.front; read = subst (λ (b : List ℕ). world_file_of b ≡ Ok c.in_ok-file.file) c.deref.ensures.value c.in_ok-file.ensures.read };
  alone = sym c.is_authority.ensures ∙ c.if-is_authority.true;
  none = c.if-not-options.true;
}
