use Rattle.ty_wire.proofs.Short.{client_hello-fits, server_hello-fits, status-fits, crumb-fits, ping-fits, pong-fits}
use Rattle.ty_wire.proofs.laws.short_messages_fit.Goals as goal

pub returns : goal.returns
returns c = record {
  client_hello = client_hello-fits;
  server_hello = server_hello-fits;
  status = status-fits;
  crumb = crumb-fits;
  ping = ping-fits;
  pong = pong-fits;
}
