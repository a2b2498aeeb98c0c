-- When a server drops a connection. All times are in milliseconds, and an earlier `now` counts as no time at all.
use Rattle.std.specs.Prelude.{ℕ, ◌-◌, Bool, ◌&&◌, nat_lt}
use Rattle.ty_base.specs.declared.limits.TheConstants.{HELLO_TIMEOUT, PONG_TIMEOUT, GREATEST_LAG, GRACE}

-- the client said no hello in time
abbrev pub is_unhello : ℕ → ℕ → Bool
is_unhello opened now = nat_lt HELLO_TIMEOUT (now - opened)

-- the client wasn't heard for too long
abbrev pub is_silent : ℕ → ℕ → Bool
is_silent heard now = nat_lt PONG_TIMEOUT (now - heard)

-- the client is too far behind, and joined long enough ago
abbrev pub is_slow : ℕ → ℕ → ℕ → Bool
is_slow at joined now = nat_lt GREATEST_LAG (now - at) && nat_lt GRACE (now - joined)
