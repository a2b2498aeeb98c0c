use Rattle.std.proofs.Common.{rules, ap, subst, map, option_map}
use Rattle.ty_base.specs.Doors.{TakesBack}
use Rattle.ty_base.specs.MemoryDoors.{MemoryDoor}
use Rattle.ty_base.specs.steps.Backs.{pair_up}
use Rattle.ty_base.proofs.Backs.{one_more_back}
use Rattle.ty_base.proofs.memory_door.MemDoorDoor.back.Goals as goal

pub returns-clause-told : goal.returns-clause-told
returns-clause-told c =
    let d = c.self.inside in
    let firsts = c.push.new.self.items in
    let returned = c.push-2.new.self.items in
    subst (λ (s : MemoryDoor). TakesBack c.args.link s.sight (record {
      last = option_map (λ s. s.value) d.last;
      lent = option_map (λ s. s.value) d.lent;
      backs = pair_up (map (λ s. s.value.value) firsts) returned;
    })) c.self.view_is (
      c.in-Some.first.value,
      search rules,
      λ i. record {
        last = option_map (λ s. s.value) d.last;
        lent = option_map (λ s. s.value) d.lent;
        backs = one_more_back (λ s. s.value.value) d.firsts.items firsts d.returned.items returned c.of.result c.in-Some.first.value c.args.link (search rules) (search rules) (search rules) (ap (λ s. s.value) c.of.ensures) i;
      },
    )
