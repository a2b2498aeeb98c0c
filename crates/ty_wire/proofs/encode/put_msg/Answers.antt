use Rattle.ty_wire.proofs.Spelling.{tokens-Kvs}
use Rattle.ty_wire.proofs.encode.put_msg.Goals as goal

pub returns-in-ServerHello-clause-tokens : goal.returns-in-ServerHello-clause-tokens
returns-in-ServerHello-clause-tokens c = rw c.in-ServerHello.is c.put_number.ensures.tokens

pub returns-in-Kvs-clause-tokens : goal.returns-in-Kvs-clause-tokens
returns-in-Kvs-clause-tokens c = rw (c.in-Kvs.is, tokens-Kvs c.in-Kvs.deltas, ← c.as_slice.ensures) c.put_kvs.ensures.tokens
