-- What the check leaves to prove of `Missing::read_below`.
use Rattle.std.proofs.Common.{◌≡◌, ℕ, ◌+◌, ◌++◌, [], ◌∷◌, List, drop, get_or, refl, sym, ◌∙◌, ap, arith}
use Rattle.sv_world.specs.Control.{is_in, blank}
use Rattle.sv_world.specs.Sets.{numbers_of}
use Rattle.sv_influence.specs.Lacking.{lacking_of, lacking_writers, base_of, committed_reads}
use Rattle.sv_influence.proofs.Looks.{writer-queued, members-move, writers-cons, reads-cons}
use Rattle.sv_influence.proofs.ReadSets.{read_low, read_at}
use Rattle.sv_influence.proofs.lacking.Missing.read_below.Goals as goal

pub last_writer-writer-requires : goal.last_writer-writer-requires
last_writer-writer-requires g c =
    read_low c.args.queue.now.shape.objects record blank { reads = c.args.objects.now } c.args.objects.now c.loop-object.object-index record { 0 = 0 } refl c.requires.objects c.loop-object-test.true

pub add_writer-requires-clause-object : goal.add_writer-requires-clause-object
add_writer-requires-clause-object g c =
    read_low c.args.queue.now.shape.objects record blank { reads = c.args.objects.now } c.args.objects.now c.loop-object.object-index record { 0 = 0 } refl c.requires.objects c.loop-object-test.true

pub add_writer-requires-clause-writer : goal.add_writer-requires-clause-writer
add_writer-requires-clause-writer g c =
    writer-queued c.args.queue.now (get_or c.args.objects.now c.loop-object.object-index record { 0 = 0 }).0 c.args.pos c.last_writer-writer.result c.requires.pos c.last_writer-writer.ensures.writer

pub loop-object-preserved : goal.loop-object-preserved
loop-object-preserved g c =
    let v = c.args.queue.now in
    let s = c.args.slot in
    let k = c.loop-object.object-index in
    let o = (get_or c.args.objects.now k record { 0 = 0 }).0 in
    let xs = numbers_of c.args.objects.now in
    let rest = drop (k + 1) xs in
    let d : drop k xs ≡ o ∷ rest = read_at record blank { reads = c.args.objects.now } c.args.objects.now k record { 0 = 0 } refl c.loop-object-test.true in
    let is = c.last_writer-writer.ensures.writer in
    record {
      wanted = λ j.
          members-move j (lacking_writers v s c.args.pos (o ∷ [])) (lacking_writers v s c.args.pos rest) c.loop-object.self.wanted c.add_writer.new.self.wanted
          (c.in_ok-add_writer.ensures.wanted j ∙ ap (λ (w : ℕ). is_in j (lacking_of v s (w ∷ []) ++ c.loop-object.self.wanted)) is)
          ∙ ap (λ (ys : List ℕ). is_in j (ys ++ c.loop-object.self.wanted))
          (sym (ap (λ (ys : List ℕ). lacking_writers v s c.args.pos ys) d ∙ writers-cons v s c.args.pos o rest))
          ∙ c.loop-object.invariant.wanted j;
      bases = λ x.
          members-move x (committed_reads v s c.args.pos (o ∷ [])) (committed_reads v s c.args.pos rest) c.loop-object.self.bases c.add_writer.new.self.bases
          (c.in_ok-add_writer.ensures.bases x ∙ ap (λ (w : ℕ). is_in x (base_of v s w o ++ c.loop-object.self.bases)) is)
          ∙ ap (λ (ys : List ℕ). is_in x (ys ++ c.loop-object.self.bases))
          (sym (ap (λ (ys : List ℕ). committed_reads v s c.args.pos ys) d ∙ reads-cons v s c.args.pos o rest))
          ∙ c.loop-object.invariant.bases x;
      ticks = (let t = c.in_ok-add_writer.ensures.ticks in let u = c.loop-object.invariant.ticks in let w = c.last_writer-writer.ensures.ticks in omega arith);
    }
