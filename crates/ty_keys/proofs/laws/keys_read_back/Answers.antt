use Rattle.ty_keys.proofs.Texts.{key_takes, key_fails, key_again}
use Rattle.ty_keys.proofs.laws.keys_read_back.Goals as goal

pub returns : goal.returns
returns c = record {
  only = λ text k h. let r = key_takes text k h in (r.key, r.is_text);
  clean = λ text k h. (key_takes text k h).clean;
  fault = key_fails;
  back = key_again;
}
