use Rattle.std.proofs.Common.{rules, ◌≡◌, ◌∙◌, length, map, sym, ap}
use Rattle.std.proofs.lemmas.List.{length-map}
use Rattle.ty_base.specs.MemoryDoors.{MemoryDoor}
use Rattle.ty_base.proofs.Backs.{seconds-pair_up}
use Rattle.ty_base.proofs.memory_door.MemDoor.returned.Goals as goal

pub returns : goal.returns
returns c =
    let d = c.self.inside in
    let beside : length d.firsts.items ≡ length d.returned.items = search rules in
    c.deref.ensures.value
    ∙ sym (seconds-pair_up (map (λ s. s.value.value) d.firsts.items) d.returned.items (length-map d.firsts.items (λ s. s.value.value) ∙ beside))
    ∙ ap (λ (s : MemoryDoor). map (λ b. b.1) s.sight.backs) c.self.view_is
