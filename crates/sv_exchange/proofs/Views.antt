-- How an exchange looks after one side sent or took a message.
use Rattle.std.proofs.Common.{◌≡◌, ℕ, Bool, true, List, [], ◌∷◌, ◌++◌, Option, Some, None, Result, Ok, Err, refl, sym, ap, subst, ◌∙◌}
use Rattle.std.specs.Prelude.{IfOk, OnOk, OnErr}
use Rattle.sv_frame.specs.Frames.{frame}
use Rattle.sv_link.specs.declared.side.Side.TheVariants.{Server, Client}
use Rattle.sv_link.specs.Sides.{SideView, LinkView, with_side, after_close}
use Rattle.sv_wire.specs.declared.message.Request.{Request}
use Rattle.sv_wire.specs.declared.message.Reply.{Reply}
use Rattle.sv_wire.specs.Laws.{IsRequest, IsReply}
use Rattle.sv_wire.specs.Messages.{request_at, reply_at}
use Rattle.sv_wire.specs.Spelling.{request_bytes, reply_bytes}
use Rattle.sv_exchange.specs.declared.carrying.MessageRoom.{MessageRoom}
use Rattle.sv_exchange.specs.declared.exchange.Exchange.TheInside.{Inside}
use Rattle.sv_exchange.specs.Streams.{SideReadOn, IsSameLink, Wrote}
use Rattle.sv_exchange.specs.Carried.{waiting, TakesFirst}
use Rattle.sv_exchange.specs.View.{ExchangeView, TakesRequest, TakesReply}
use Rattle.sv_exchange.specs.Invariant.{model_of, IsExchange}
use Rattle.sv_exchange.proofs.Sizes.{requests_spelled, replies_spelled}
use Rattle.sv_exchange.proofs.Onward.{own_closed, other_unwritten}
use Rattle.sv_exchange.proofs.Lanes.{sent, lane_same, waits_same, lane_read_same, waits_read_same}

-- views with the same parts are one
pub same_view : (q q' : List Request) (p p' : List Reply) (a a' b b' : Bool) → q ≡ q' → p ≡ p' → a ≡ a' → b ≡ b' →
    ◌≡◌ {A = ExchangeView} (record { requests = q; replies = p; closed = a; stopped = b }) (record { requests = q'; replies = p'; closed = a'; stopped = b' })
same_view q q' p p' a a' b b' e f g h = cc

-- with another link
abbrev pub with_link : Inside → LinkView → Inside
with_link e link = record { alloc = e.alloc; link = link; server = e.server; client = e.client; buffers = e.buffers }

-- with other buffers, which no one sees
abbrev pub with_buffers : Inside → MessageRoom → Inside
with_buffers e buffers = record { alloc = e.alloc; link = e.link; server = e.server; client = e.client; buffers = buffers }

pub buffers_kept : (e : Inside) (buffers : MessageRoom) → IsExchange e → IsExchange (with_buffers e buffers)
buffers_kept e buffers is = record { requests = is.requests; replies = is.replies }

-- ---- The same is left of the link

pub same_link_kept : (e : Inside) (link : LinkView) → IsExchange e → IsSameLink e.link link → IsExchange (with_link e link)
same_link_kept e link is same =
    record {
      requests = lane_read_same IsRequest request_bytes request_at requests_spelled e.server e.link.client link.client same.client is.requests;
      replies = lane_read_same IsReply reply_bytes reply_at replies_spelled e.client e.link.server link.server same.server is.replies;
    }

pub same_link_view : (e : Inside) (link : LinkView) → IsSameLink e.link link → model_of (with_link e link) ≡ model_of e
same_link_view e link same =
    same_view _ _ _ _ _ _ _ _
    (waits_read_same IsRequest request_bytes request_at requests_spelled e.server e.link.client link.client same.client)
    (waits_read_same IsReply reply_bytes reply_at replies_spelled e.client e.link.server link.server same.server)
    same.client.closed
    same.server.closed

-- ---- A message is sent

pub request_sent : (e : Inside) (link : LinkView) (m : Request) → IsExchange e → IsRequest m → Wrote e.link link Client (frame (request_bytes m)) →
    IsExchange (with_link e link) × (model_of (with_link e link) ≡ record (model_of e) { requests = (model_of e).requests ++ m ∷ [] })
request_sent e link m is message wrote =
    let own = sent IsRequest request_bytes request_at requests_spelled e.server e.link link Client m wrote message is.requests in
    let rest = other_unwritten e.link link Client _ wrote in (
      record { requests = own.lane; replies = lane_read_same IsReply reply_bytes reply_at replies_spelled e.client e.link.server link.server rest is.replies },
      same_view _ _ _ _ _ _ _ _ own.waits (waits_read_same IsReply reply_bytes reply_at replies_spelled e.client e.link.server link.server rest) (own_closed e.link link Client _ wrote) rest.closed,
    )

pub reply_sent : (e : Inside) (link : LinkView) (m : Reply) → IsExchange e → IsReply m → Wrote e.link link Server (frame (reply_bytes m)) →
    IsExchange (with_link e link) × (model_of (with_link e link) ≡ record (model_of e) { replies = (model_of e).replies ++ m ∷ [] })
reply_sent e link m is message wrote =
    let own = sent IsReply reply_bytes reply_at replies_spelled e.client e.link link Server m wrote message is.replies in
    let rest = other_unwritten e.link link Server _ wrote in (
      record { requests = lane_read_same IsRequest request_bytes request_at requests_spelled e.server e.link.client link.client rest is.requests; replies = own.lane },
      same_view _ _ _ _ _ _ _ _ (waits_read_same IsRequest request_bytes request_at requests_spelled e.server e.link.client link.client rest) own.waits rest.closed (own_closed e.link link Server _ wrote),
    )

-- ---- The first that waits is taken

abbrev pub server_read : Inside → LinkView → List ℕ → Inside
server_read e link server = record { alloc = e.alloc; link = link; server = server; client = e.client; buffers = e.buffers }

pub request_taken : {F : Type 0} (e : Inside) (link : LinkView) (server : List ℕ) (r : Result (Option Request) F) → SideReadOn e.link link Server →
    IfOk r (λ answer. TakesFirst answer (waiting request_at e.server e.link.client) (waiting request_at server link.client)) →
    IfOk r (λ answer. TakesRequest (model_of e) (model_of (server_read e link server)) answer)
request_taken e link server (Ok None) on taken =
    (taken.0, same_view _ _ _ _ _ _ _ _ taken.1 (ap (waiting reply_at e.client) on.own) on.closed (ap (λ (x : SideView). x.closed) on.own))
request_taken e link server (Ok (Some m)) on taken =
    same_view _ _ _ _ _ _ _ _ taken (ap (waiting reply_at e.client) (sym on.own)) (sym on.closed) (ap (λ (x : SideView). x.closed) (sym on.own))
request_taken e link server (Err f) on taken = tt

pub request_stays : {X F : Type 0} (e : Inside) (link : LinkView) (server : List ℕ) (r : Result X F) → SideReadOn e.link link Server →
    OnErr r (waiting request_at server link.client ≡ waiting request_at e.server e.link.client) → OnErr r (model_of (server_read e link server) ≡ model_of e)
request_stays e link server (Ok x) on same = tt
request_stays e link server (Err f) on same =
    same_view _ _ _ _ _ _ _ _ same (ap (waiting reply_at e.client) on.own) on.closed (ap (λ (x : SideView). x.closed) on.own)

abbrev pub client_read : Inside → LinkView → List ℕ → Inside
client_read e link client = record { alloc = e.alloc; link = link; server = e.server; client = client; buffers = e.buffers }

pub reply_taken : {F : Type 0} (e : Inside) (link : LinkView) (client : List ℕ) (r : Result (Option Reply) F) → SideReadOn e.link link Client →
    IfOk r (λ answer. TakesFirst answer (waiting reply_at e.client e.link.server) (waiting reply_at client link.server)) →
    IfOk r (λ answer. TakesReply (model_of e) (model_of (client_read e link client)) answer)
reply_taken e link client (Ok None) on taken =
    (taken.0, same_view _ _ _ _ _ _ _ _ (ap (waiting request_at e.server) on.own) taken.1 (ap (λ (x : SideView). x.closed) on.own) on.closed)
reply_taken e link client (Ok (Some m)) on taken =
    same_view _ _ _ _ _ _ _ _ (ap (waiting request_at e.server) (sym on.own)) taken (ap (λ (x : SideView). x.closed) (sym on.own)) (sym on.closed)
reply_taken e link client (Err f) on taken = tt

pub reply_stays : {X F : Type 0} (e : Inside) (link : LinkView) (client : List ℕ) (r : Result X F) → SideReadOn e.link link Client →
    OnErr r (waiting reply_at client link.server ≡ waiting reply_at e.client e.link.server) → OnErr r (model_of (client_read e link client) ≡ model_of e)
reply_stays e link client (Ok x) on same = tt
reply_stays e link client (Err f) on same =
    same_view _ _ _ _ _ _ _ _ (ap (waiting request_at e.server) on.own) same (ap (λ (x : SideView). x.closed) on.own) on.closed

-- ---- Whether or not there was memory

pub request_kept : {X F : Type 0} (r : Result X F) (e : Inside) (link : LinkView) (m : Request) → IsExchange e → IsRequest m →
    OnOk r (Wrote e.link link Client (frame (request_bytes m))) → OnErr r (IsSameLink e.link link) → IsExchange (with_link e link)
request_kept (Ok x) e link m is message ok err = (request_sent e link m is message ok).0
request_kept (Err f) e link m is message ok err = same_link_kept e link is err

pub request_seen : {X F : Type 0} (r : Result X F) (e : Inside) (link : LinkView) (m : Request) → IsExchange e → IsRequest m →
    OnOk r (Wrote e.link link Client (frame (request_bytes m))) → OnOk r (model_of (with_link e link) ≡ record (model_of e) { requests = (model_of e).requests ++ m ∷ [] })
request_seen (Ok x) e link m is message ok = (request_sent e link m is message ok).1
request_seen (Err f) e link m is message ok = tt

pub reply_kept : {X F : Type 0} (r : Result X F) (e : Inside) (link : LinkView) (m : Reply) → IsExchange e → IsReply m →
    OnOk r (Wrote e.link link Server (frame (reply_bytes m))) → OnErr r (IsSameLink e.link link) → IsExchange (with_link e link)
reply_kept (Ok x) e link m is message ok err = (reply_sent e link m is message ok).0
reply_kept (Err f) e link m is message ok err = same_link_kept e link is err

pub reply_seen : {X F : Type 0} (r : Result X F) (e : Inside) (link : LinkView) (m : Reply) → IsExchange e → IsReply m →
    OnOk r (Wrote e.link link Server (frame (reply_bytes m))) → OnOk r (model_of (with_link e link) ≡ record (model_of e) { replies = (model_of e).replies ++ m ∷ [] })
reply_seen (Ok x) e link m is message ok = (reply_sent e link m is message ok).1
reply_seen (Err f) e link m is message ok = tt

pub unsent_seen : {X F : Type 0} (r : Result X F) (e : Inside) (link : LinkView) → OnErr r (IsSameLink e.link link) → OnErr r (model_of (with_link e link) ≡ model_of e)
unsent_seen (Ok x) e link err = tt
unsent_seen (Err f) e link err = same_link_view e link err

-- ---- A side is closed

pub closed_kept : (e : Inside) (link : LinkView) → IsExchange e → link ≡ with_side e.link Client (after_close e.link.client) → IsExchange (with_link e link)
closed_kept e link is closes =
    subst (λ (l : LinkView). IsExchange (with_link e l)) (sym closes)
    (record {
      requests = lane_same IsRequest request_bytes request_at requests_spelled e.server e.server e.link.client (after_close e.link.client) refl is.requests.within is.requests;
      replies = is.replies;
    })

pub closed_view : (e : Inside) (link : LinkView) → link ≡ with_side e.link Client (after_close e.link.client) → model_of (with_link e link) ≡ record (model_of e) { closed = true }
closed_view e link closes =
    ap (λ (l : LinkView). model_of (with_link e l)) closes
    ∙ same_view _ _ _ _ _ _ _ _ (waits_same IsRequest request_bytes request_at requests_spelled e.server e.server e.link.client (after_close e.link.client) refl) refl refl refl

pub stopped_kept : (e : Inside) (link : LinkView) → IsExchange e → link ≡ with_side e.link Server (after_close e.link.server) → IsExchange (with_link e link)
stopped_kept e link is closes =
    subst (λ (l : LinkView). IsExchange (with_link e l)) (sym closes)
    (record {
      requests = is.requests;
      replies = lane_same IsReply reply_bytes reply_at replies_spelled e.client e.client e.link.server (after_close e.link.server) refl is.replies.within is.replies;
    })

pub stopped_view : (e : Inside) (link : LinkView) → link ≡ with_side e.link Server (after_close e.link.server) → model_of (with_link e link) ≡ record (model_of e) { stopped = true }
stopped_view e link closes =
    ap (λ (l : LinkView). model_of (with_link e l)) closes
    ∙ same_view _ _ _ _ _ _ _ _ refl (waits_same IsReply reply_bytes reply_at replies_spelled e.client e.client e.link.server (after_close e.link.server) refl) refl refl
