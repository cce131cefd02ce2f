-- The UDP ports of bricks: brick b of a layout has the port b above the layout's.
use Rattle.std.specs.Prelude.{ℕ, ◌+◌, ◌-◌, nat_le, nat_lt, ◌&&◌, if◌then◌else◌, Option, Some, None}
use Rattle.fab_base.specs.declared.identities.BrickId.{BrickId}
use Rattle.fab_base.specs.Layouts.{Layout}
use Rattle.serving.specs.declared.ports.Ports.{Ports}

-- the ports of the bricks of a layout
abbrev pub ports_of : Layout → Ports
ports_of layout = record { first = layout.port; bricks = layout.bricks }

-- the port of a brick
abbrev pub port_of : Ports → BrickId → ℕ
port_of ports brick = ports.first + brick.0

-- the brick whose port this is
abbrev pub brick_at : Ports → ℕ → Option BrickId
brick_at ports port =
    if nat_le ports.first port && nat_lt port (ports.first + ports.bricks) then Some (record { 0 = port - ports.first }) else None
