-- What the check leaves to prove of `Missing::add_writer`.
use Rattle.std.proofs.Common.{ℕ, ◌∷◌, sym, ap, ◌∙◌}
use Rattle.sv_world.specs.Control.{is_in}
use Rattle.sv_influence.proofs.Looks.{look-base, look-given, look-late, look-unsent}
use Rattle.sv_influence.proofs.lacking.Missing.add_writer.Goals as goal

pub returns-in_ok-insert-clause-bases : goal.returns-in_ok-insert-clause-bases
returns-in_ok-insert-clause-bases g c =
    look-base c.args.queue.now c.args.slot c.args.object.0 c.args.writer c.args.self.now.bases c.insert.new.self c.requires.object
    c.if-writer-eq0.true (sym c.if-not-is_given.ensures)
    (λ x. c.in_ok-insert.ensures x ∙ ap (λ (n : ℕ). is_in x (n ∷ c.args.self.now.bases)) c.from.ensures)

pub returns-else-not-is_given-clause-bases : goal.returns-else-not-is_given-clause-bases
returns-else-not-is_given-clause-bases g c =
    look-given c.args.queue.now c.args.slot c.args.object.0 c.args.writer c.args.self.now.bases c.requires.object (sym c.if-not-is_given.ensures)

pub returns-in_ok-insert-2-clause-wanted : goal.returns-in_ok-insert-2-clause-wanted
returns-in_ok-insert-2-clause-wanted g c =
    look-unsent c.args.queue.now c.args.slot c.args.writer c.args.self.now.wanted c.insert-then-not-is_marked.new.self
    (c.requires.writer c.if-writer-eq0.false).0 (sym c.if-not-is_marked.ensures.marked) c.in_ok-insert-2.ensures

pub returns-in_ok-insert-2-clause-bases : goal.returns-in_ok-insert-2-clause-bases
returns-in_ok-insert-2-clause-bases g c =
    look-late c.args.queue.now c.args.slot c.args.object.0 c.args.writer c.args.self.now.bases (c.requires.writer c.if-writer-eq0.false).0

pub returns-else-not-is_marked-clause-bases : goal.returns-else-not-is_marked-clause-bases
returns-else-not-is_marked-clause-bases g c =
    look-late c.args.queue.now c.args.slot c.args.object.0 c.args.writer c.args.self.now.bases (c.requires.writer c.if-writer-eq0.false).0
