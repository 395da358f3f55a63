-- What a payload is decoded as is never an End.
use Rattle.std.proofs.Common.{◌≡◌, ℕ, Bool, true, false, List, length, Result, Ok, Err, refl, ◌==◌, subst}
use Rattle.std.specs.Prelude.{IfOk, if◌then◌else◌}
use Rattle.sv_wire.specs.declared.fault.Stop.{Stop}
use Rattle.sv_wire.specs.declared.fault.WireCause.TheVariants.{Rest}
use Rattle.sv_wire.specs.declared.kinds.RequestKind.{RequestKind}
use Rattle.sv_wire.specs.declared.kinds.RequestKind.TheVariants as kinds
use Rattle.sv_wire.specs.declared.message.Request.{Request}
use Rattle.sv_wire.specs.Steps.{Read, ◌>>=◌, stop, several}
use Rattle.sv_wire.specs.Fields.{byte_from, number_from, count_from, objects_from, result_from}
use Rattle.sv_wire.specs.Nodes.{kind_in}
use Rattle.sv_wire.specs.Messages.{action_from, join_request_from, submit_from, done_from, observe_from, request_of, request_kind_of, request_front, whole, placed, request_at}
use Rattle.sv_journal.specs.Sessions.{is_end}

abbrev NoEnd : Request × List ℕ → Type 0
NoEnd x = is_end x.0 ≡ false

after : {A B : Type 0} (P : B → Type 0) (r : Result A Stop) (f : A → Result B Stop) → ((a : A) → IfOk (f a) P) → IfOk (r >>= f) P
after P (Ok x) f each = each x
after P (Err e) f each = tt

join_no_end : (bytes : List ℕ) → IfOk (join_request_from bytes) NoEnd
unfolding join_request_from
join_no_end bytes = after NoEnd (number_from 2 bytes) _ (λ client. after NoEnd (number_from 4 client.1) _ (λ life. after NoEnd (count_from 0 64 life.1) _ (λ n. after NoEnd (objects_from n.0 n.1) _ (λ interest. refl))))

submit_no_end : (bytes : List ℕ) → IfOk (submit_from bytes) NoEnd
unfolding submit_from
submit_no_end bytes = after NoEnd (number_from 4 bytes) _ (λ seq. after NoEnd (action_from seq.1) _ (λ action. refl))

done_no_end : (bytes : List ℕ) → IfOk (done_from bytes) NoEnd
unfolding done_from
done_no_end bytes = after NoEnd (count_from 1 33 bytes) _ (λ n. after NoEnd (several result_from n.0 n.1) _ (λ results. refl))

observe_no_end : (bytes : List ℕ) → IfOk (observe_from bytes) NoEnd
unfolding observe_from
observe_no_end bytes = after NoEnd (count_from 1 16 bytes) _ (λ n. after NoEnd (objects_from n.0 n.1) _ (λ objects. after NoEnd (number_from 2 objects.1) _ (λ wait. refl)))

kind_no_end : (kind : RequestKind) (bytes : List ℕ) → IfOk (request_of kind bytes) NoEnd
kind_no_end kinds.Join bytes = join_no_end bytes
kind_no_end kinds.Submit bytes = submit_no_end bytes
kind_no_end kinds.Done bytes = done_no_end bytes
kind_no_end kinds.Poll bytes = refl
kind_no_end kinds.Observe bytes = observe_no_end bytes
kind_no_end kinds.Leave bytes = refl

front_no_end : (bytes : List ℕ) → IfOk (request_front bytes) NoEnd
unfolding request_front
front_no_end bytes = after NoEnd (byte_from bytes) _ (λ b. after NoEnd (kind_in (request_kind_of b.0) bytes) _ (λ kind. kind_no_end kind b.1))

kept : (b : Bool) (q : Request) (rest : List ℕ) → is_end q ≡ false → IfOk (if b then Ok q else stop rest Rest) (λ x. is_end x ≡ false)
kept true q rest p = p
kept false q rest p = tt

whole_from : (bytes : List ℕ) (r : Read Request) → IfOk r NoEnd → IfOk (r >>= λ m. if length m.1 == 0 then Ok m.0 else stop m.1 Rest) (λ q. is_end q ≡ false)
whole_from bytes (Ok m) p = kept (length m.1 == 0) m.0 m.1 p
whole_from bytes (Err e) p = tt

placed_from : (payload : List ℕ) (r : Result Request Stop) (m : Request) → IfOk r (λ q. is_end q ≡ false) → placed payload r ≡ Ok m → is_end m ≡ false
placed_from payload (Ok q) m p e = let same : q ≡ m = cc in subst (λ x. is_end x ≡ false) same p
placed_from payload (Err s) m p e = absurd cc

pub decoded_no_end : (payload : List ℕ) (m : Request) → request_at payload ≡ Ok m → is_end m ≡ false
unfolding request_at whole
decoded_no_end payload m e = placed_from payload (whole request_front payload) m (whole_from payload (request_front payload) (front_no_end payload)) e
