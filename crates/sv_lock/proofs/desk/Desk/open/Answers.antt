-- What is proved by hand of `Desk::open`.
use Rattle.std.proofs.Common.{rules, ◌≡◌, [], ◌∷◌, ap, sym, subst}
use Rattle.sv_lock.proofs.Keeps.{opens}
use Rattle.sv_lock.proofs.desk.Desk.open.Goals as goal

pub new-requires : goal.new-requires
new-requires g c =
    let o = g.O.Object in let x = c.args.object in let is = c.of-opening.ensures in
    let words : c.as_slice.result.now ≡ 0 ∷ [] = search rules in
    let slots : c.in_ok-slots.slots.items ≡ x ∷ [] = search rules in
    rw (words, slots) (opens o.base o.history o.lawful o.number_of _ x (ap o.base (sym is)) c.requires
    (rw is (subst (o.lawful (o.base x)) c.requires c.certify.ensures)))
