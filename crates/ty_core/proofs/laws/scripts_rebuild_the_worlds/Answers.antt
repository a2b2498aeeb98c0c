use Rattle.ty_core.specs.Script.{whole_script}
use Rattle.ty_core.proofs.Interleaved.{rebuilds}
use Rattle.ty_core.proofs.ScriptHappens.{happens}
use Rattle.ty_core.proofs.laws.scripts_rebuild_the_worlds.Goals as goal

pub returns : goal.returns
returns v = record {
  script = λ read ended good. (happens read ended good).0;
  worlds = λ read ended good.
      let h = happens read ended good in
      rebuilds (whole_script read) h.1 h.0 h.2;
}
