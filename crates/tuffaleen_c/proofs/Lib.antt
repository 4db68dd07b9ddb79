pub mod HostLaws
pub mod ImageLaws
pub mod ImagePromised
pub mod CourierLaws
