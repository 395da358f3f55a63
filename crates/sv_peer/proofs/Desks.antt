-- What a desk keeps stays through the calls of a connection.
use Rattle.std.specs.Prelude.{List, [], ◌∷◌, ℕ}
use Rattle.std.proofs.Common.{sym, subst}
use Rattle.http.specs.declared.request.Request.{Request}
use Rattle.http_server.specs.declared.response.Response.{Response}
use Rattle.http_server.specs.Exchange.{Call, Chain, Calls}

chain_keeps : {D : Type 0} (answers : D → Request (List ℕ) → Response → D → Type 0) (keeps : D → D → Type 0)
    → ((d : D) → keeps d d) → ((a b c : D) → keeps a b → keeps b c → keeps a c)
    → ((a b : D) (request : Request (List ℕ)) (response : Response) → answers a request response b → keeps a b)
    → (calls : List Call) (old new : D) → Chain answers old calls new → keeps old new
chain_keeps answers keeps itself on each [] old new chain = subst (λ d. keeps old d) (sym chain) (itself old)
chain_keeps answers keeps itself on each (call ∷ calls) old new chain =
    on old chain.0 new (each old chain.0 call.0 call.1 chain.1) (chain_keeps answers keeps itself on each calls chain.0 new chain.2)

-- the desk keeps what it keeps, whichever calls were made
pub calls_keep : {D : Type 0} (answers : D → Request (List ℕ) → Response → D → Type 0) (keeps : D → D → Type 0)
    → ((d : D) → keeps d d) → ((a b c : D) → keeps a b → keeps b c → keeps a c)
    → ((a b : D) (request : Request (List ℕ)) (response : Response) → answers a request response b → keeps a b)
    → (old new : D) (before after : List Call) → Calls answers old new before after → keeps old new
calls_keep answers keeps itself on each old new before after made = chain_keeps answers keeps itself on each made.0 old new made.2
