-- A client that differs from an honest one in the values that it reports alone: its trace fits the journal but for those.
use Rattle.std.proofs.Common.{◌≡◌, ℕ, List, [], ◌∷◌, map, length, ℤ, refl, ap₂}
use Rattle.sv_world.specs.declared.world.Shape.{Shape}
use Rattle.sv_wire.specs.declared.message.Done1.{Done1}
use Rattle.sv_wire.specs.declared.message.Request.{Request}
use Rattle.sv_wire.specs.declared.message.Request.TheVariants as requests
use Rattle.sv_journal.specs.declared.entry.Entry.{Entry}
use Rattle.sv_client.specs.declared.trace.Trace.{Trace}
use Rattle.sv_client.specs.Traces.{requests_of}
use Rattle.law_system.specs.Fits.{requests_in}
use Rattle.law_system.specs.Served.{HaveSameForm, AreSameButValues, FitsButValues}
use Rattle.law_system.proofs.Asking.{asked-but}
use Rattle.law_system.proofs.Clients.{client-trace}
use Rattle.sv_witness.specs.Lies.{lied_value, lied_result, lied}
use Rattle.sv_witness.specs.Tolerance.{IsLiar}

lied-long : (v : List ℤ) → length v ≡ length (lied_value v)
lied-long [] = refl
lied-long (n ∷ ns) = refl

lied-lengths : (vs : List (List ℤ)) → map (λ (v : List ℤ). length v) vs ≡ map (λ (v : List ℤ). length v) (map lied_value vs)
lied-lengths [] = refl
lied-lengths (v ∷ vs) = ap₂ (λ (n : ℕ) (ns : List ℕ). n ∷ ns) (lied-long v) (lied-lengths vs)

lied-form : (ds : List Done1) → HaveSameForm ds (map lied_result ds)
lied-form [] = tt
lied-form (d ∷ ds) = (refl, (lied-lengths d.values, lied-form ds))

-- A request and its lie are the same but for values.
pub lied-same : (q : Request) → AreSameButValues q (lied q)
lied-same (requests.Done results) = (map lied_result results, (refl, lied-form results))
lied-same (requests.Join client life interest) = refl
lied-same (requests.Submit seq a) = refl
lied-same requests.Poll = refl
lied-same (requests.Observe objects wait) = refl
lied-same requests.Leave = refl
lied-same requests.Bad = refl
lied-same requests.End = refl

pub liar-fits : (shape : Shape) (h : List Entry) (Ls : List Trace) (L : Trace) → IsLiar shape h Ls L → FitsButValues shape h L
liar-fits shape h Ls L liar = record {
  trace = client-trace shape L liar.proper;
  sessions = λ s has.
      (let f = liar.sessions s has in
      record { got = f.got; asked = asked-but lied lied-same (requests_in h s) (requests_of L s) f.asked; ended = f.ended });
}
