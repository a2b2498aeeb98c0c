-- Messages without deltas fit.
use Rattle.std.proofs.Common.{◌≡◌, ℕ, ◌<◌, ◌≤◌, ◌^◌, true, List, ◌++◌, codes, decimal, length, refl, arith, length-append, lt-ltb, le-leb}
use Rattle.json.specs.Print.{quoted}
use Rattle.std.proofs.lemmas.Fmt.{length-decimal-le}
use Rattle.ty_base.specs.declared.limits.TheConstants.{BODY_BYTES, VALUE_BYTES}
use Rattle.ty_base.specs.declared.status.Status.{Status}
use Rattle.ty_base.specs.declared.status.Status.TheVariants.{Wait, Resync, InSync}
use Rattle.ty_wire.specs.Wire.{body, message_fits}
use Rattle.ty_wire.proofs.Parts.{quoted-len}
use Rattle.ty_wire.specs.declared.message.Msg.TheVariants.{ClientHello, ServerHello, Status as StatusMsg, Crumb, Ping, Pong}

number-len : (n : ℕ) → n < 2 ^ 64 → length (decimal n) ≤ 20
number-len n h = length-decimal-le 20 n (omega arith) (omega arith) h

pub server_hello-fits : (n : ℕ) → n < 2 ^ 64 → message_fits (ServerHello n) ≡ true
server_hello-fits n h = rw (lt-ltb n (2 ^ 64) h, le-leb (length (body (ServerHello n))) BODY_BYTES (omega (arith, number-len n h, length-append (decimal n) (codes "}")))) refl

pub crumb-fits : (n : ℕ) → n < 2 ^ 64 → message_fits (Crumb n) ≡ true
crumb-fits n h = rw (lt-ltb n (2 ^ 64) h, le-leb (length (body (Crumb n))) BODY_BYTES (omega (arith, number-len n h, length-append (decimal n) (codes "}")))) refl

pub ping-fits : (n : ℕ) → n < 2 ^ 64 → message_fits (Ping n) ≡ true
ping-fits n h = rw (lt-ltb n (2 ^ 64) h, le-leb (length (body (Ping n))) BODY_BYTES (omega (arith, number-len n h, length-append (decimal n) (codes "}")))) refl

pub pong-fits : (n : ℕ) → n < 2 ^ 64 → message_fits (Pong n) ≡ true
pong-fits n h = rw (lt-ltb n (2 ^ 64) h, le-leb (length (body (Pong n))) BODY_BYTES (omega (arith, number-len n h, length-append (decimal n) (codes "}")))) refl

pub status-fits : (s : Status) → message_fits (StatusMsg s) ≡ true
status-fits Wait = refl
status-fits Resync = refl
status-fits InSync = refl

pub client_hello-fits : (version : ℕ) (host : List ℕ) → version < 2 ^ 64 → length host ≤ VALUE_BYTES → message_fits (ClientHello version host) ≡ true
client_hello-fits v host h l =
    let behind : List ℕ = codes ",\"m\":\"client_hello\",\"version\":" ++ (decimal v ++ codes "}") in
    rw (lt-ltb v (2 ^ 64) h, le-leb (length (body (ClientHello v host))) BODY_BYTES (omega (arith, number-len v h, quoted-len host, length-append (quoted host) behind, length-append (decimal v) (codes "}")))) refl
