use Rattle.ty_top.proofs.Statuses.{at_zero, at_one, at_two, at_three, at_four, at_five, at_six, at_eight, at_nine}
use Rattle.ty_top.proofs.laws.statuses_tell.Goals as goal

pub returns : goal.returns
returns c = record {
  done = at_zero;
  usage = at_one;
  line = at_two;
  read = at_three;
  write = at_four;
  memory = at_five;
  fault = at_six;
  too_much = at_eight;
  cut = at_nine;
}
