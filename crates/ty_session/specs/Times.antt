-- When a server looks for a client's bytes, asks whether the client is there, and ends a group. All
-- times are in milliseconds, and an earlier `now` counts as no time at all.
use Rattle.std.specs.Prelude.{ℕ, ◌-◌, Bool, ◌||◌, nat_lt, nat_le}
use Rattle.ty_base.specs.declared.limits.TheConstants.{LOOK_INTERVAL, PING_INTERVAL, GROUP_AGE, MESSAGE_DELTAS}

-- it is time to look for bytes
abbrev pub is_look_due : ℕ → ℕ → Bool
is_look_due looked now = nat_le LOOK_INTERVAL (now - looked)

-- it is time for a ping
abbrev pub is_ping_due : ℕ → ℕ → Bool
is_ping_due pinged now = nat_le PING_INTERVAL (now - pinged)

-- a breadcrumb that was made at `at` ends a group of so many deltas, its own among them
abbrev pub closes_group : ℕ → ℕ → ℕ → Bool
closes_group at now count = nat_lt (now - at) GROUP_AGE || nat_le MESSAGE_DELTAS count
