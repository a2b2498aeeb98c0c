-- For private clauses: a message as JSON data, and its tokens.
use Rattle.std.specs.Prelude.{ℕ, List, [], ◌∷◌, ◌++◌, codes, decimal, Option, None, Some}
use Rattle.json.specs.Token.{Token}
use Rattle.json.specs.Tree.{json_tokens}
use Rattle.serde_json.specs.Data.{Data, object, string, number, array, unsigned, Items, no_items, item, Members, no_members, member}
use Rattle.serde_json.specs.Written.{outline}
use Rattle.ty_base.specs.Statuses.{status_text}
use Rattle.ty_wire.specs.Wire.{kind_text}
use Rattle.ty_wire.specs.declared.message.Msg.{Msg}
use Rattle.ty_wire.specs.declared.message.Msg.TheVariants.{ClientHello, ServerHello, Kvs, Status as StatusMsg, Crumb, Ping, Pong}
use Rattle.ty_base.specs.declared.delta.Delta.{Delta}

abbrev pub value_members : Option (List ℕ) → Members
value_members None = no_members
value_members (Some v) = member (codes "value") (string v) no_members

abbrev pub delta_data : Delta → Data
delta_data d = object (member (codes "key") (string d.key) (member (codes "type") (string (kind_text d.kind)) (value_members d.value)))

abbrev pub deltas_data : List Delta → Items
deltas_data [] = no_items
deltas_data (d ∷ ds) = item (delta_data d) (deltas_data ds)

abbrev pub data_of : Msg → Data
data_of (ClientHello version host) = object (member (codes "host") (string host) (member (codes "m") (string (codes "client_hello")) (member (codes "version") (number (unsigned version)) no_members)))
data_of (ServerHello version) = object (member (codes "m") (string (codes "server_hello")) (member (codes "version") (number (unsigned version)) no_members))
data_of (Kvs ds) = object (member (codes "kvs") (array (deltas_data ds)) (member (codes "m") (string (codes "kvs")) no_members))
data_of (StatusMsg s) = object (member (codes "m") (string (codes "status")) (member (codes "status") (string (status_text s)) no_members))
data_of (Crumb n) = object (member (codes "m") (string (codes "crumb")) (member (codes "n") (number (unsigned n)) no_members))
data_of (Ping ts) = object (member (codes "m") (string (codes "ping")) (member (codes "ts") (number (unsigned ts)) no_members))
data_of (Pong ts) = object (member (codes "m") (string (codes "pong")) (member (codes "ts") (number (unsigned ts)) no_members))

abbrev pub msg_tokens : Msg → List Token
msg_tokens m = json_tokens (outline (data_of m))

abbrev pub number_tokens : List ℕ → List ℕ → ℕ → List Token
number_tokens name field n = Token.begin_object ∷ Token.key (codes "m") ∷ Token.string name ∷ Token.key field ∷ Token.number (decimal n) ∷ Token.end_object ∷ []

abbrev pub value_tokens : Option (List ℕ) → List Token
value_tokens None = Token.end_object ∷ []
value_tokens (Some v) = Token.key (codes "value") ∷ Token.string v ∷ Token.end_object ∷ []

abbrev pub delta_tokens : Delta → List Token
delta_tokens d = Token.begin_object ∷ Token.key (codes "key") ∷ Token.string d.key ∷ Token.key (codes "type") ∷ Token.string (kind_text d.kind) ∷ value_tokens d.value

-- between the brackets
abbrev pub kvs_tokens : List Token → List Token
kvs_tokens ts = Token.begin_object ∷ Token.key (codes "kvs") ∷ Token.begin_array ∷ (ts ++ (Token.end_array ∷ Token.key (codes "m") ∷ Token.string (codes "kvs") ∷ Token.end_object ∷ []))
